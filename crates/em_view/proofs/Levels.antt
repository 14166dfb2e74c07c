-- A level further up on the walk, a link further on the way.
use Rattle.std.proofs.Common.{◌≡◌, ◌<◌, ◌+◌, ◌-◌, ℕ, zero, suc, Bool, true, false, List, Option, Some, None, Result, Ok, refl, subst, arith}
use Rattle.std.specs.Prelude.{is_some}
use Rattle.em_path.specs.Paths.{parent_text}
use Rattle.em_tree.specs.declared.way.Met.{Met}
use Rattle.em_tree.specs.declared.way.Way.{Way}
use Rattle.em_tree.specs.declared.way.Way.TheVariants.{To, TooMany, Bad}
use Rattle.em_tree.specs.declared.way.Led.{Led}
use Rattle.em_tree.specs.Resolving.{onward}
use Rattle.em_view.specs.declared.no.DeskNo.{DeskNo}
use Rattle.em_view.specs.Actions.{Action, ◌>>=◌, done}
use Rattle.em_view.specs.Performs.{DeskState, Told, Performs}
use Rattle.em_view.specs.Rows.{is_memory}
use Rattle.em_view.specs.Walking.{passed_by, passed_under, passed, pass, lead_by, lead_on, too_many, resolve_from}
use Rattle.em_view.proofs.Performing.{finish}

-- what follows the first link, where so many may still be followed
abbrev pub follow_of : Bool → ℕ → ℕ → List ℕ → Met → Action DeskNo Led
follow_of last zero n p = too_many n
follow_of last (suc left) n p = λ m. lead_on (resolve_from last left (suc n)) n (onward p m)

module _ {V : Type 0} {tells : V → Told} {old new : DeskState V} where
  pub passed_level : {r : Result (Option Met) DeskNo} (p : List ℕ) (left : ℕ) → 0 < left → Performs is_memory tells old new r (passed_under (passed (left - 1)) p (parent_text p)) → Performs is_memory tells old new r (passed left p)
  passed_level p zero h d = absurd (omega arith)
  passed_level {r} p (suc n) h d = let e : suc n - 1 ≡ n = omega arith in subst (λ k. Performs is_memory tells old new r (passed_under (passed k) p (parent_text p))) e d

  pub turn : {r : Result Led DeskNo} (last : Bool) (left n : ℕ) (p : List ℕ) → Performs is_memory tells old new r (pass last p >>= lead_by (follow_of last left n p) n p) → Performs is_memory tells old new r (resolve_from last left n p)
  turn last zero n p d = d
  turn last (suc left) n p d = d

  pub follow_level : {r : Result Led DeskNo} (last : Bool) (left n : ℕ) (p : List ℕ) (m : Met) → 0 < left → Performs is_memory tells old new r (lead_on (resolve_from last (left - 1) (n + 1)) n (onward p m)) → Performs is_memory tells old new r (follow_of last left n p m)
  follow_level last zero n p m h d = absurd (omega arith)
  follow_level {r} last (suc left) n p m h d =
      let e : suc left - 1 ≡ left = omega arith in
      let f : n + 1 ≡ suc n = omega arith in
      subst (λ k. Performs is_memory tells old new r (lead_on (resolve_from last left k) n (onward p m))) f (subst (λ k. Performs is_memory tells old new r (lead_on (resolve_from last k (n + 1)) n (onward p m))) e d)

module _ {V : Type 0} {tells : V → Told} {d : DeskState V} where
  -- a link was met further up
  pub kept : (dir p : List ℕ) (m : Option Met) → is_some m ≡ true → Performs is_memory tells d d (Ok m) (passed_by dir p m)
  kept dir p None e = absurd (cc)
  kept dir p (Some m) e = finish

pub no_met : (m : Option Met) → is_some m ≡ false → m ≡ None
no_met None e = refl
no_met (Some m) e = absurd (cc)

-- a way that leads nowhere
pub nowhere : {A : Type 0} (at : Way → Action DeskNo A) (a : A) → at TooMany ≡ done a → at Bad ≡ done a → (w : Way) → ((q : List ℕ) → w ≡ To q → ⊥) → at w ≡ done a
nowhere at a many bad (To q) h = absurd (h q refl)
nowhere at a many bad TooMany h = many
nowhere at a many bad Bad h = bad
