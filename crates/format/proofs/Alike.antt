-- Two problems that are alike but for the joining rule and the sparse order: what does not depend on these are bases,
-- multipliers and kinds, and what a certificate stream gives.
use mathlib.Core.Path.{◌≡◌, refl, ap, fun_ext}
use mathlib.Core.List.{List}
use Prim.Native.Nat.{ℕ, zero, suc}
use Rattle.format.specs.Commands.{read_whole}
use Rattle.format.specs.declared.certificate.Instruction.{Instruction}
use Rattle.format.specs.declared.certificate.Instruction.TheVariants as I
use Rattle.format.specs.ProblemRules.{Problem, with_rule, with_order}
use Rattle.format.specs.ProblemBases.{basis_of, multiplier, kind_of}
use Rattle.format.specs.CertificateRules.{Certificate, no_certificate, certificate_operands_fit, certificate_refusal_at, certificate_instruction_at, certificate_language, read_certificate}

-- q is p, but for the rule and the order
pub record Alike (p q : Problem) : Type 0 where
  pub objective : q.objective ≡ p.objective
  pub conditions : q.conditions ≡ p.conditions
  pub bases : q.bases ≡ p.bases

pub ruled_alike : (p : Problem) (r : ℕ) → Alike p (with_rule p r)
ruled_alike p r = record { objective = refl; conditions = refl; bases = refl }

pub ordered_alike : (p : Problem) (k : ℕ) → Alike p (with_order p k)
ordered_alike p k = record { objective = refl; conditions = refl; bases = refl }

module _ (p q : Problem) (a : Alike p q) where
  pub alike_basis : (j : ℕ) → basis_of q j ≡ basis_of p j
  unfolding basis_of
  alike_basis j = rw a.bases

  pub alike_multiplier : (j : ℕ) → multiplier q j ≡ multiplier p j
  unfolding multiplier
  alike_multiplier zero = refl
  alike_multiplier (suc j) = rw a.conditions

  alike_kind : (j : ℕ) → kind_of q j ≡ kind_of p j
  unfolding kind_of
  alike_kind zero = refl
  alike_kind (suc j) = rw a.conditions

  alike_fits : (c : Certificate) (i : Instruction) → certificate_operands_fit q c i ≡ certificate_operands_fit p c i
  alike_fits c (I.Header side d x y) = refl
  alike_fits c (I.Row j w) = cc (alike_kind j)
  alike_fits c (I.Entry i l) = rw (alike_basis _)
  alike_fits c I.End = refl
  alike_fits c (I.EqualityRow j w) = cc (alike_kind j)
  alike_fits c (I.WideEntry i l) = rw (alike_basis _)

  alike_refusal : (c : Certificate) (s : List ℕ) (at : ℕ) → certificate_refusal_at q c s at ≡ certificate_refusal_at p c s at
  unfolding certificate_refusal_at
  alike_refusal c s at = rw (alike_fits c (certificate_instruction_at s at))

  -- a stream gives the same certificate, or the same refusal
  pub alike_certificate : (s : List ℕ) → read_certificate q s ≡ read_certificate p s
  unfolding read_certificate
  alike_certificate s =
      let l = certificate_language p in
      ap (λ (v : Certificate → List ℕ → ℕ → ℕ). read_whole (record { verdict = v; next = l.next; size = l.size; ending = l.ending }) no_certificate s)
      (fun_ext (λ c. fun_ext (λ t. fun_ext (λ at. alike_refusal c t at))))
