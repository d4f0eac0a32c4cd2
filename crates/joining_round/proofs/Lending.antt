-- What is lent to the joining of one basis, by its parts of the arrays, and what that leaves in them.
use mathlib.Core.Path.{◌≡◌, ◌∙◌}
use mathlib.Core.List.{List, ◌++◌}
use Prim.Native.Nat.{ℕ, ◌+◌, ◌-◌, ◌*◌, ◌≤◌, ◌<◌}
use native.Mathlib.Nat.{add-sub_cancel_left}
use native.Mathlib.Omega.{arith}
use lib.ListN.{length, get_or, take, drop}
use Rattle.key_set.specs.Table.{keys_in}
use Rattle.flat.specs.Flat.{basis_in}
use Rattle.round_laws.specs.Joins.{Through}
use Rattle.joining_blocks.specs.Standing.{standing, Grew, JoiningAsks}
use Rattle.joining_blocks.specs.declared.Reach.{Reach}
use Rattle.joining_bases.specs.Parts.{piece, exponents_in, labels_at, Sizes}
use Rattle.joining_bases.specs.Nine.{AsksAt, JoinedAt}
use Rattle.joining_bases.proofs.Pieces.{taken_long, piece_put, piece_only, only_same}
use Rattle.joining_bases.proofs.Labels.{labels_put, labels_only}
use Rattle.joining_bases.proofs.Ready.{ready_small, grew_small}
use Rattle.joining_bases.proofs.Turns.{basis_long, arrays_sizes}

module _ (keys sizes labels follow pairs t idx : List ℕ) (r : Reach) (j : ℕ) (a : AsksAt keys sizes labels follow pairs t idx r j) (T B : List ℕ) (e : T ≡ exponents_in keys sizes j) (f : B ≡ basis_in keys sizes j) where
  abbrev lent : List ℕ
  lent = take (64 * j + get_or sizes j 0 - 64 * j) (drop (64 * j) labels)

  abbrev lent_links : List ℕ
  lent_links = take (64 * j + 64 - 64 * j) (drop (64 * j) follow)

  abbrev lent_pairs : List ℕ
  lent_pairs = take (6240 * j + 6240 - 6240 * j) (drop (6240 * j) pairs)

  abbrev put : List ℕ → List ℕ
  put m = take (64 * j) labels ++ (m ++ drop (64 * j + get_or sizes j 0 - 64 * j) (drop (64 * j) labels))

  abbrev put_links : List ℕ → List ℕ
  put_links m = take (64 * j) follow ++ (m ++ drop (64 * j + 64 - 64 * j) (drop (64 * j) follow))

  sized : Sizes sizes
  sized = arrays_sizes keys sizes a.arrays

  long : (m : List ℕ) → length m ≡ length lent → length m ≡ get_or sizes j 0
  long m q = q ∙ taken_long (64 * j) (get_or sizes j 0) labels (omega (arith, a.long, a.basis, sized.small j a.basis))

  links_long : (m : List ℕ) → length m ≡ length lent_links → length m ≡ 64
  links_long m q = q ∙ taken_long (64 * j) 64 follow (omega (arith, a.links, a.basis))

  nine_links : length follow ≡ 64 * 9
  nine_links = omega (arith, a.links)

  -- a small basis: its index of pairs does not matter
  module _ (c : get_or sizes j 0 ≤ 16) where
    small : length (basis_in keys sizes j) ≤ 16
    small = omega (arith, basis_long keys sizes a.arrays j a.basis)

    pub lend_small : (q : List ℕ) → JoiningAsks T B (standing lent lent_links q t idx r)
    lend_small q =
        rw (e, f, add-sub_cancel_left (64 * j) (get_or sizes j 0), add-sub_cancel_left (64 * j) 64)
        (record {
          ready = ready_small (exponents_in keys sizes j) (basis_in keys sizes j) small (labels_at sizes labels j) (piece 64 follow j) (piece 6240 pairs j) t idx r a.joining.ready q;
          recent = a.joining.recent;
        })

    pub left_small : (q m f' q' t' idx' : List ℕ) (r' : Reach) → length m ≡ length lent → length f' ≡ length lent_links → Grew T B (Through T B (keys_in r.until t)) (standing lent lent_links q t idx r) (standing m f' q' t' idx' r')
        → JoinedAt keys sizes labels follow pairs t idx r j (put m) (put_links f') pairs t' idx' r'
    left_small q m f' q' t' idx' r' k v w =
        let l = long m k in
        let u = links_long f' v in
        record {
          grew = rw (labels_put sizes sized labels m j a.long a.basis l, piece_put 64 j follow f' nine_links a.basis u)
              (grew_small (exponents_in keys sizes j) (basis_in keys sizes j) small _ (labels_at sizes labels j) (piece 64 follow j) q t idx r m f' q' t' idx' r' (rw (e, f, add-sub_cancel_left (64 * j) (get_or sizes j 0), add-sub_cancel_left (64 * j) 64) at w) (piece 6240 pairs j) (piece 6240 pairs j));
          other_labels = labels_only sizes sized labels m j a.long a.basis l;
          other_follow = piece_only 64 j follow f' nine_links a.basis u;
          other_pairs = only_same 6240 j pairs;
        }

  module _ (c : 16 < get_or sizes j 0) where
    room : length pairs ≡ 6240 * 9
    room = omega (arith, a.room.at j a.basis c)

    pub lend_large : JoiningAsks T B (standing lent lent_links lent_pairs t idx r)
    lend_large = rw (e, f, add-sub_cancel_left (64 * j) (get_or sizes j 0), add-sub_cancel_left (64 * j) 64, add-sub_cancel_left (6240 * j) 6240) a.joining

    abbrev put_pairs : List ℕ → List ℕ
    put_pairs m = take (6240 * j) pairs ++ (m ++ drop (6240 * j + 6240 - 6240 * j) (drop (6240 * j) pairs))

    pub left_large : (m f' q t' idx' : List ℕ) (r' : Reach) → length m ≡ length lent → length f' ≡ length lent_links → length q ≡ length lent_pairs → Grew T B (Through T B (keys_in r.until t)) (standing lent lent_links lent_pairs t idx r) (standing m f' q t' idx' r')
        → JoinedAt keys sizes labels follow pairs t idx r j (put m) (put_links f') (put_pairs q) t' idx' r'
    left_large m f' q t' idx' r' k v i w =
        let l = long m k in
        let u = links_long f' v in
        let n : length q ≡ 6240 = i ∙ taken_long (6240 * j) 6240 pairs (omega (arith, room, a.basis)) in
        record {
          grew = rw (labels_put sizes sized labels m j a.long a.basis l, piece_put 64 j follow f' nine_links a.basis u, piece_put 6240 j pairs q room a.basis n) (rw (e, f, add-sub_cancel_left (64 * j) (get_or sizes j 0), add-sub_cancel_left (64 * j) 64, add-sub_cancel_left (6240 * j) 6240) at w);
          other_labels = labels_only sizes sized labels m j a.long a.basis l;
          other_follow = piece_only 64 j follow f' nine_links a.basis u;
          other_pairs = piece_only 6240 j pairs q room a.basis n;
        }
