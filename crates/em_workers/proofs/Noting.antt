-- Notes: that what they say is so, and those of some jobs behind others.
--     notes_are       the notes of what was lent tell causes that are so
--     note_is         the same of one job
--     turns_then, notes_then      jobs behind others
use Rattle.std.proofs.Common.{◌≡◌, ℕ, suc, ◌+◌, Bool, List, [], ◌∷◌, ◌++◌, length, map, drop, Option, Some, None, refl, sym, subst, ◌∙◌, append-nil, append_assoc, length-append, add-zero, arith}
use Rattle.std.specs.Prelude.{IfSome, IsSomeAnd, slice_get, option_map}
use Rattle.em_tree.specs.declared.question.Entry.{Entry}
use Rattle.em_tree.specs.declared.state.State.{State}
use Rattle.em_tree.specs.Trees.{Changes}
use Rattle.em_view.specs.Serial.{after}
use Rattle.em_run.specs.declared.run.Parts.{Parts}
use Rattle.em_run.specs.Serial.{Made, state_after}
use Rattle.em_engine.specs.declared.event.Taken.{Taken}
use Rattle.em_engine.specs.declared.event.Taken.TheVariants as taken
use Rattle.em_engine.specs.declared.note.Cause.{Cause}
use Rattle.em_engine.specs.declared.note.Note.{Note}
use Rattle.em_engine.specs.declared.note.Verdict.{Verdict}
use Rattle.em_engine.specs.declared.note.Verdict.TheVariants as found
use Rattle.em_engine.specs.Verdicts.{IsVerdict, AgreesAt}
use Rattle.em_workers.specs.Turns.{differ, cause_of, Finds, IsNote}
use Rattle.em_workers.specs.Notes.{IsCause, IsNoteOf, AreNotes, AreTurns}

differs : (s : State) (ds : List Changes) (i : ℕ) (o : Option Entry) → IsSomeAnd o (λ e. ¬ AgreesAt s e) → IfSome (option_map (differ s ds i) o) (IsCause s ds)
differs s ds i None wrong = absurd wrong
differs s ds i (Some e) wrong = record { other = λ same. wrong (sym same); now_is = refl; after_is = refl }

module _ {S : Type 0} (eq : S → S → Bool) (s : State) (ds : List Changes) (next : S) where
  found_cause : (r : Parts S) (asked : List Entry) (verdict : Verdict) → IsVerdict eq s next r asked verdict → IfSome (cause_of s ds r asked verdict) (IsCause s ds)
  found_cause r asked found.Same is = tt
  found_cause r asked found.Foreign is = tt
  found_cause r asked (found.Strange i) is = λ same. is.1.apart (sym same)
  found_cause r asked (found.Differ i) is = differs s ds i (slice_get r.usage i) is.2.wrong

  cause_is : (lent : Option (Taken S)) (why : Option Cause) → Finds eq s ds next lent why → IfSome why (IsCause s ds)
  cause_is None why is = subst (λ (w : Option Cause). IfSome w (IsCause s ds)) (sym is) tt
  cause_is (Some taken.GivenUp) why is = subst (λ (w : Option Cause). IfSome w (IsCause s ds)) (sym is) tt
  cause_is (Some (taken.Run r asked)) why is = subst (λ (w : Option Cause). IfSome w (IsCause s ds)) (sym is.why_is) (found_cause r asked is.verdict is.is)
  cause_is (Some taken.NotYet) why is = absurd is

pub notes_then : (s : State) (ds : List Changes) (ms os : List Made) (ns ps : List Note) → AreNotes s ds ms ns → AreNotes (state_after s ms) (ds ++ map (λ m. m.effect.changes) ms) os ps → AreNotes s ds (ms ++ os) (ns ++ ps)
notes_then s ds [] os [] ps t u = subst (λ (es : List Changes). AreNotes s es os ps) (append-nil ds) u
notes_then s ds [] os (n ∷ ns) ps t u = absurd t
notes_then s ds (m ∷ ms) os [] ps t u = absurd t
notes_then s ds (m ∷ ms) os (n ∷ ns) ps t u = (
  t.0,
  notes_then (after m.effect s) (ds ++ m.effect.changes ∷ []) ms os ns ps t.1
      (subst (λ (es : List Changes). AreNotes (state_after (after m.effect s) ms) es os ps) (sym (append_assoc ds (m.effect.changes ∷ []) (map (λ m. m.effect.changes) ms))) u),
)

module _ {S : Type 0} (job_of : S → ℕ) (eq : S → S → Bool) where
  pub note_is : (s : State) (ds : List Changes) (next : S) (lent : Option (Taken S)) (n : Note) → job_of next ≡ length ds → IsNote job_of eq s ds next lent n → IsNoteOf s ds n
  note_is s ds next lent n place t = record { job = t.job ∙ place; runs = t.runs; cause = cause_is eq s ds next lent n.cause t.cause }

  -- the jobs have the numbers from n on
  abbrev pub Numbered : ℕ → List S → Type 0
  Numbered n js = (i : ℕ) → IfSome (slice_get js i) (λ j. job_of j ≡ n + i)

  numbered_rest : (n : ℕ) (j : S) (js : List S) → Numbered n (j ∷ js) → Numbered (n + 1) js
  numbered_rest n j js h i = subst (λ (k : ℕ). IfSome (slice_get js i) (λ l. job_of l ≡ k)) (let e : n + suc i ≡ n + 1 + i = omega arith in e) (h (suc i))

  pub notes_are : (s : State) (ds : List Changes) (js : List S) (ls : List (Option (Taken S))) (ms : List Made) (ns : List Note) → Numbered (length ds) js → AreTurns job_of eq s ds js ls ms ns → AreNotes s ds ms ns
  notes_are s ds js [] [] [] h t = tt
  notes_are s ds js [] [] (n ∷ ns) h t = absurd t
  notes_are s ds js [] (m ∷ ms) ns h t = absurd t
  notes_are s ds [] (l ∷ ls) ms ns h t = absurd t
  notes_are s ds (j ∷ js) (l ∷ ls) [] ns h t = absurd t
  notes_are s ds (j ∷ js) (l ∷ ls) (m ∷ ms) [] h t = absurd t
  notes_are s ds (j ∷ js) (l ∷ ls) (m ∷ ms) (n ∷ ns) h t = (
    note_is s ds j l n (h 0 ∙ add-zero (length ds)) t.0,
    notes_are (after m.effect s) (ds ++ m.effect.changes ∷ []) js ls ms ns (subst (λ (k : ℕ). Numbered k js) (sym (length-append ds (m.effect.changes ∷ []))) (numbered_rest (length ds) j js h)) t.1,
  )

  pub turns_then : (s : State) (ds : List Changes) (js : List S) (ls ks : List (Option (Taken S))) (ms os : List Made) (ns ps : List Note) → AreTurns job_of eq s ds js ls ms ns
      → AreTurns job_of eq (state_after s ms) (ds ++ map (λ m. m.effect.changes) ms) (drop (length ms) js) ks os ps → AreTurns job_of eq s ds js (ls ++ ks) (ms ++ os) (ns ++ ps)
  turns_then s ds js [] ks [] os [] ps t u = subst (λ (es : List Changes). AreTurns job_of eq s es js ks os ps) (append-nil ds) u
  turns_then s ds js [] ks [] os (n ∷ ns) ps t u = absurd t
  turns_then s ds js [] ks (m ∷ ms) os ns ps t u = absurd t
  turns_then s ds [] (l ∷ ls) ks ms os ns ps t u = absurd t
  turns_then s ds (j ∷ js) (l ∷ ls) ks [] os ns ps t u = absurd t
  turns_then s ds (j ∷ js) (l ∷ ls) ks (m ∷ ms) os [] ps t u = absurd t
  turns_then s ds (j ∷ js) (l ∷ ls) ks (m ∷ ms) os (n ∷ ns) ps t u = (
    t.0,
    turns_then (after m.effect s) (ds ++ m.effect.changes ∷ []) js ls ks ms os ns ps t.1
        (subst (λ (es : List Changes). AreTurns job_of eq (state_after (after m.effect s) ms) es (drop (length ms) js) ks os ps) (sym (append_assoc ds (m.effect.changes ∷ []) (map (λ m. m.effect.changes) ms))) u),
  )
