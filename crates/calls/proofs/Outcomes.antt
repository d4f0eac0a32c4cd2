-- Inversion of outcomes: what is given or refused after several checks was so at one of them. And what is told of an
-- outcome, by how it ends.
use mathlib.Core.Path.{◌≡◌, refl, ap, subst, ◌∙◌}
use mathlib.Core.Bool.{Bool, true, false}
use Rattle.counting.proofs.Cases.{clash}
use Rattle.calls.specs.declared.Refusal.{Refusal}
use Rattle.calls.specs.Outcome.{Outcome, refused, given, ◌then◌, refuse_if, told}

-- every refusal that an outcome can be has P
pub record Refuses {A : Type 0} (P : Refusal → Type 0) (o : Outcome A) : Type 0 where
  pub by : (r : Refusal) → o ≡ refused r → P r

-- and so has every thing
pub record Gives {A : Type 0} (P : A → Type 0) (o : Outcome A) : Type 0 where
  pub by : (a : A) → o ≡ given a → P a

module _ {A : Type 0} {P : Refusal → Type 0} where
  pub given_refuses : {a : A} → Refuses P (given a)
  given_refuses = record { by = λ r e. clash (cc) }

  pub if_refuses : (b : Bool) (q : Refusal) {o : Outcome A} → (b ≡ true → P q) → (b ≡ false → Refuses P o) → Refuses P (refuse_if b q o)
  if_refuses true q x y = record { by = λ r e. let i : q ≡ r = cc in subst P i (x refl) }
  if_refuses false q x y = y refl

  pub then_refuses : {B : Type 0} {o : Outcome A} {f : A → Outcome B} → Refuses P o → Gives (λ a. Refuses P (f a)) o → Refuses P (o then f)
  then_refuses {o = o} {f = f} x y = go o refl
    where
      go : (k : Outcome A) → o ≡ k → Refuses P (k then f)
      go (refused q) e = record { by = λ r h. let i : q ≡ r = cc in x.by r (e ∙ ap refused i) }
      go (given a) e = y.by a e

module _ {A : Type 0} {P : A → Type 0} where
  pub given_gives : {a : A} → P a → Gives P (given a)
  given_gives {a} h = record { by = λ b e. let i : a ≡ b = cc in subst P i h }

  pub if_gives : (b : Bool) (q : Refusal) {o : Outcome A} → (b ≡ false → Gives P o) → Gives P (refuse_if b q o)
  if_gives true q x = record { by = λ a e. clash (cc) }
  if_gives false q x = x refl

  pub then_gives : {B : Type 0} {o : Outcome B} {f : B → Outcome A} → Gives (λ b. Gives P (f b)) o → Gives P (o then f)
  then_gives {o = o} {f = f} x = go o refl
    where
      go : (k : Outcome _) → o ≡ k → Gives P (k then f)
      go (refused q) e = record { by = λ a h. clash (cc) }
      go (given b) e = x.by b e

-- a property of what is told, by how the outcome ends
pub told_by : {A : Type 0} (P : A → Type 0) (refuse : Refusal → A) (o : Outcome A) → Refuses (λ r. P (refuse r)) o → Gives P o → P (told refuse o)
told_by P refuse (refused r) x y = x.by r refl
told_by P refuse (given a) x y = y.by a refl
