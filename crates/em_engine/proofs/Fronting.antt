-- A front with one job more, and which job changed a path last.
use Rattle.std.proofs.Common.{◌≡◌, ◌<◌, ◌≤◌, ◌+◌, ◌^◌, ℕ, zero, suc, Bool, true, false, cond, List, [], ◌∷◌, ◌++◌, Option, Some, None, length, map, take, get_or, refl, sym, ap, subst, ◌∙◌, add-zero, arith, slice_get}
use Rattle.std.specs.Prelude.{IsSomeAnd, is_some}
use Rattle.std.specs.FinMap.{get}
use Rattle.std.proofs.lemmas.List.{length-map, length-take-le, take_more}
use Rattle.em_tree.specs.declared.outcome.Outcome.{Outcome}
use Rattle.em_tree.specs.declared.state.State.{State}
use Rattle.em_tree.specs.Trees.{Changes}
use Rattle.em_view.specs.declared.effect.Effect.{Effect}
use Rattle.em_view.specs.Serial.{after}
use Rattle.em_run.specs.declared.run.Parts.{Parts}
use Rattle.em_run.specs.Runs.{effect_in}
use Rattle.em_run.specs.Serial.{Made, Ran, is_early, IsSerial}
use Rattle.em_run.proofs.Serials.{state_more, ran_more, is_early_more}
use Rattle.em_engine.specs.Fronts.{Standing, next_of, last_from, named_last, committed, Stands, IsStanding}

next_by : {S : Type 0} (b : Bool) (o : Option S) (next : S) → cond b None o ≡ Some next → (b ≡ false) × (o ≡ Some next)
next_by true o next e = cc
next_by false o next e = (refl, e)

pub next_is : {S : Type 0} (v : Standing S) (next : S) → next_of v ≡ Some next → (v.ended ≡ false) × (slice_get v.specs (length v.deltas) ≡ Some next)
next_is v next e = next_by v.ended (slice_get v.specs (length v.deltas)) next e

pub map-push : {A B : Type 0} (f : A → B) (xs : List A) (x : A) → map f (xs ++ x ∷ []) ≡ map f xs ++ f x ∷ []
map-push f [] x = refl
map-push f (y ∷ xs) x = ap (λ (ys : List _). f y ∷ ys) (map-push f xs x)

-- what a run made
abbrev pub made_by : {S : Type 0} → Parts S → Made
made_by r = record { effect = effect_in r; fuel = r.fuel }

module _ {S : Type 0} (makes : S → State → Effect → ℕ → Type 0) (ends : S → Outcome → Bool) where
  pub no_early : (specs : List S) → is_early makes ends specs [] ≡ false
  no_early [] = refl
  no_early (s ∷ specs) = refl

  pub starts_front : (start : State) (specs : List S) → start.outcomes ≡ [] → length specs < 2 ^ 32
      → IsStanding makes ends (record { start = start; state = start; specs = specs; ended = false; fuel = []; deltas = [] })
  starts_front start specs bare small = record {
    made = [];
    stands = record { ran = tt; ended_is = sym (no_early specs); state_is = refl; fuel_is = refl; deltas_are = refl };
    bare = bare;
    small = small;
  }

  -- a run of the next job more
  pub stands_more : (v : Standing S) (made : List Made) (r : Parts S) (next : S) → Stands makes ends v made → next_of v ≡ Some next
      → makes next v.state (effect_in r) r.fuel → ends r.spec r.outcome ≡ ends next r.outcome → Stands makes ends (committed ends v r) (made ++ made_by r ∷ [])
  stands_more v made r next s is it same =
      let m : Made = made_by r in
      let early : is_early makes ends v.specs made ≡ false = sym s.ended_is ∙ (next_is v next is).0 in
      let count : length v.deltas ≡ length made = ap length s.deltas_are ∙ length-map made _ in
      let at : slice_get v.specs (length made) ≡ Some next = ap (slice_get v.specs) (sym count) ∙ (next_is v next is).1 in
      record {
        ran = ran_more makes ends v.start v.specs made next m s.ran early at (subst (λ (t : State). makes next t (effect_in r) r.fuel) s.state_is it);
        ended_is = same ∙ sym (is_early_more makes ends v.specs made next m early at);
        state_is = ap (after (effect_in r)) s.state_is ∙ sym (state_more v.start made m);
        fuel_is = ap (λ (ns : List ℕ). ns ++ r.fuel ∷ []) s.fuel_is ∙ sym (map-push (λ (m : Made). m.fuel) made m);
        deltas_are = ap (λ (ds : List Changes). ds ++ r.delta ∷ []) s.deltas_are ∙ sym (map-push (λ (m : Made). m.effect.changes) made m);
      }

  pub commits : (v : Standing S) (r : Parts S) (next : S) → IsStanding makes ends v → next_of v ≡ Some next
      → makes next v.state (effect_in r) r.fuel → ends r.spec r.outcome ≡ ends next r.outcome → IsStanding makes ends (committed ends v r)
  commits v r next b is it same = record {
    made = b.made ++ made_by r ∷ [];
    stands = stands_more v b.made r next b.stands is it same;
    bare = b.bare;
    small = b.small;
  }

  ran_within : (s : State) (specs : List S) (made : List Made) → Ran makes ends s specs made → length made ≤ length specs
  ran_within s specs [] ran = omega arith
  ran_within s [] (m ∷ ms) ran = absurd ran
  ran_within s (j ∷ js) (m ∷ ms) ran = let rest = ran_within (after m.effect s) js ms ran.1.1 in omega (arith, rest)

  slice_past : (xs : List S) (i : ℕ) → slice_get xs i ≡ None → length xs ≤ i
  slice_past [] i h = omega arith
  slice_past (x ∷ xs) zero h = absurd (cc)
  slice_past (x ∷ xs) (suc i) h = let rest = slice_past xs i h in omega (arith, rest)

  -- where there is no next job, the whole serial run is committed
  pub whole_run : (v : Standing S) (made : List Made) → Stands makes ends v made → next_of v ≡ None → IsSerial makes ends v.start v.specs made
  whole_run v made s none = record {
    ran = s.ran;
    whole = λ early.
        let going : v.ended ≡ false = s.ended_is ∙ early in
        let past = slice_past v.specs (length v.deltas) (ap (λ (b : Bool). cond b None (slice_get v.specs (length v.deltas))) (sym going) ∙ none) in
        let count : length v.deltas ≡ length made = ap length s.deltas_are ∙ length-map made _ in
        let within = ran_within v.start v.specs made s.ran in
        omega (arith, past, count, within);
  }

-- ---- the last delta that names a path

last_push : (found : Option ℕ) (n : ℕ) (ds : List Changes) (d : Changes) (p : List ℕ)
    → last_from found n (ds ++ d ∷ []) p ≡ cond (is_some (get d p)) (Some (n + length ds)) (last_from found n ds p)
last_push found n [] d p = ap (λ (k : ℕ). cond (is_some (get d p)) (Some k) found) (sym (add-zero n))
last_push found n (e ∷ ds) d p =
    last_push (cond (is_some (get e p)) (Some n) found) (n + 1) ds d p
    ∙ ap (λ (k : ℕ). cond (is_some (get d p)) (Some k) (last_from (cond (is_some (get e p)) (Some n) found) (n + 1) ds p))
    (let k : n + 1 + length ds ≡ n + length (e ∷ ds) = omega arith in k)

module _ (ds : List Changes) (i : ℕ) (d : Changes) (p : List ℕ) (lt : i < length ds) (at : d ≡ get_or ds i d) where
  named_up_to : named_last (take (i + 1) ds) p ≡ cond (is_some (get d p)) (Some i) (named_last (take i ds) p)
  named_up_to =
      let count : length (take i ds) ≡ i = length-take-le i ds (omega (arith, lt)) in
      let place : 0 + length (take i ds) ≡ i = omega (arith, count) in
      ap (λ (es : List Changes). named_last es p) (take_more ds i d lt ∙ ap (λ (e : Changes). take i ds ++ e ∷ []) (sym at))
      ∙ last_push None 0 (take i ds) d p
      ∙ ap (λ (k : ℕ). cond (is_some (get d p)) (Some k) (named_last (take i ds) p)) place

  -- the last delta of these names the path
  pub named_here : is_some (get d p) ≡ true → named_last (take (i + 1) ds) p ≡ Some i
  named_here h = named_up_to ∙ ap (λ (b : Bool). cond b (Some i) (named_last (take i ds) p)) h

  -- it doesn't
  pub named_before : is_some (get d p) ≡ false → named_last (take (i + 1) ds) p ≡ named_last (take i ds) p
  named_before h = named_up_to ∙ ap (λ (b : Bool). cond b (Some i) (named_last (take i ds) p)) h

-- fewer jobs are committed than a number can tell
pub few_deltas : {S : Type 0} (makes : S → State → Effect → ℕ → Type 0) (ends : S → Outcome → Bool) (v : Standing S) → IsStanding makes ends v → length v.deltas < 2 ^ 32
few_deltas makes ends v b =
    let count : length v.deltas ≡ length b.made = ap length b.stands.deltas_are ∙ length-map b.made _ in
    let within = ran_within makes ends v.start v.specs b.made b.stands.ran in
    omega (arith, count, within, b.small)

pub no_some : {A : Type 0} (o : Option A) → is_some o ≡ false → o ≡ None
no_some None h = refl
no_some (Some x) h = absurd (cc)

pub the_next : {S : Type 0} (o : Option S) (P : S → Type 0) → IsSomeAnd o P → (next : S) × (o ≡ Some next) × P next
the_next None P h = absurd h
the_next (Some next) P h = (next, refl, h)
