-- From the committer to the build.
--     begins           a front stands before its first job
--     builds, breaks   all jobs were committed, and the committer broke off
--     breaks_early     memory ran out before the first job
use Rattle.std.proofs.Common.{◌≡◌, ℕ, Bool, false, List, [], Option, None, Result, Ok, Err, refl, sym, subst, ◌∙◌}
use Rattle.std.specs.Prelude.{All, IsErrAnd}
use Rattle.em_host.specs.Outside.{Outside}
use Rattle.em_host.proofs.Telling.{Tells-weaken, Tells-same, makes_none}
use Rattle.em_tree.specs.declared.outcome.Outcome.{Outcome}
use Rattle.em_tree.specs.declared.state.State.{State}
use Rattle.em_view.specs.declared.effect.Effect.{Effect}
use Rattle.em_run.specs.Serial.{Ran, IsSerial}
use Rattle.em_engine.specs.declared.note.Note.{Note}
use Rattle.em_engine.specs.Fronts.{Standing, Stands, next_of}
use Rattle.em_engine.proofs.Fronting.{no_early, whole_run}
use Rattle.em_workers.specs.declared.builder.Built.{Built}
use Rattle.em_workers.specs.declared.no.BuildNo.{BuildNo}
use Rattle.em_workers.specs.declared.no.BuildNo.TheVariants as no
use Rattle.em_workers.specs.Notes.{AreNotes}
use Rattle.em_workers.specs.Printing.{Said}
use Rattle.em_workers.specs.Lending.{Lending}
use Rattle.em_workers.specs.Commits.{Commits}
use Rattle.em_workers.specs.Builds.{IsOnce, Builds}
use Rattle.em_workers.proofs.Saying.{said_lost}

-- memory ran out before the first job
pub breaks_early : {S : Type 0} (makes : S → State → Effect → ℕ → Type 0) (ends : S → Outcome → Bool) (start : State) (specs : List S) (workers : ℕ) (x : Option Outside) (r : Result Built BuildNo)
    → IsErrAnd r (λ s. s ≡ no.NoMemory) → Builds makes ends start specs workers r x x
breaks_early makes ends start specs workers x (Ok b) is = absurd is
breaks_early makes ends start specs workers x (Err s) is = subst (λ (t : BuildNo). Builds makes ends start specs workers (Err t) x x) (sym is) (record {
  made = [];
  ran = tt;
  built = tt;
  printed = Tells-same (Said {A = Built} [] (Err no.NoMemory)) x (λ z. said_lost [] z z (makes_none z));
})

module _ {S : Type 0} (job_of : S → ℕ) (eq : S → S → Bool) (makes : S → State → Effect → ℕ → Type 0) (ends : S → Outcome → Bool) (start : State) (specs : List S) where
  abbrev begun : Standing S
  begun = record { start = start; state = start; specs = specs; ended = false; fuel = []; deltas = [] }

  begins : Stands makes ends begun []
  begins = record { ran = tt; ended_is = sym (no_early makes ends specs); state_is = refl; fuel_is = refl; deltas_are = refl }

  module _ (workers : ℕ) (x y : Option Outside) where
    module _ {A : Type 0} (w : Standing S) (a b : Option (Lending S)) (notes : List Note) where
      ran_in : (r : Result A BuildNo) (c : Commits job_of eq makes ends notes r begun w a b x y) → Ran makes ends start specs c.made
      ran_in r c =
          subst (λ (js : List S). Ran makes ends start js c.made) c.specs
          (subst (λ (s : State). Ran makes ends s w.specs c.made) c.start (c.stands [] begins).ran)

      pub breaks : (r : Result Built BuildNo) (e : BuildNo) → IsErrAnd r (λ s. s ≡ e) → Commits job_of eq makes ends {A = A} notes (Err e) begun w a b x y → Builds makes ends start specs workers r x y
      breaks (Ok o) e is c = absurd is
      breaks (Err s) e is c = subst (λ (t : BuildNo). Builds makes ends start specs workers (Err t) x y) (sym is) (record {
        made = c.made;
        ran = ran_in (Err e) c;
        built = tt;
        printed = Tells-weaken x y (λ l m f. f) c.printed;
      })

      pub builds : (o : A) (built : Built) → Commits job_of eq makes ends notes (Ok o) begun w a b x y → next_of w ≡ None → (workers ≡ 1 → All IsOnce notes)
          → built.state ≡ w.state → built.fuel ≡ w.fuel → built.notes ≡ notes → Builds makes ends start specs workers (Ok built) x y
      builds o built c none once state fuel noted = record {
        made = c.made;
        ran = ran_in (Ok o) c;
        built = record {
          serial =
              subst (λ (js : List S). IsSerial makes ends start js c.made) c.specs
              (subst (λ (s : State). IsSerial makes ends s w.specs c.made) c.start (whole_run makes ends w c.made (c.stands [] begins) none));
          state = state ∙ c.state;
          fuel = fuel ∙ (c.stands [] begins).fuel_is;
          notes = subst (λ (ns : List Note). AreNotes start [] c.made ns) (sym noted) c.noted;
          alone = λ one. subst (λ (ns : List Note). All IsOnce ns) (sym noted) (once one);
        };
        printed = Tells-weaken x y (λ l m f. f) c.printed;
      }
