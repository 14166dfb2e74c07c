-- Where each job was run once nothing is learnt.
--     none_learnt      no pair
--     still            a history without a new pair is as it was
use Rattle.std.proofs.Common.{◌≡◌, ◌⊎◌, inl, ⊎_elim, List, [], ◌∷◌, Option, Some, None, refl, sym, ap, ◌∙◌, arith}
use Rattle.std.specs.Prelude.{All, ◌↔◌, filter_map}
use Rattle.std.specs.List.{Contains}
use Rattle.std.specs.Option.{option_and_then}
use Rattle.std.specs.Prelude.{slice_get}
use Rattle.std.proofs.lemmas.List.Elements.{All-head, All-tail}
use Rattle.em_tree.specs.Trees.{Changes}
use Rattle.em_tree.specs.declared.state.State.{State}
use Rattle.em_view.specs.Serial.{after}
use Rattle.em_history.specs.Histories.{Pair, IsHistory, united, collected}
use Rattle.em_run.specs.Serial.{Made}
use Rattle.em_plan.specs.declared.planned.PlanJob.{PlanJob}
use Rattle.em_engine.specs.declared.note.Cause.{Cause}
use Rattle.em_engine.specs.declared.note.Note.{Note}
use Rattle.em_workers.specs.Builds.{IsOnce}
use Rattle.em_workers.specs.Notes.{AreNotes}
use Rattle.em_workers.specs.Turns.{runs_for}
use Rattle.em_learning.specs.Learnt.{changer_in, targets, pair_of, learnt}

no_cause : (c : Option Cause) → 1 ≡ runs_for c → c ≡ None
no_cause None e = refl
no_cause (Some c) e = absurd (omega (arith, e))

no_targets : (j : Option PlanJob) → targets j None ≡ None
no_targets None = refl
no_targets (Some j) = refl

module _ (jobs : List PlanJob) where
  no_pair : (n : Note) → n.runs ≡ 1 → n.runs ≡ runs_for n.cause → pair_of jobs n ≡ None
  no_pair n once runs =
      ap (λ (c : Option Cause). targets (slice_get jobs n.job) (option_and_then (slice_get jobs) (changer_in c))) (no_cause n.cause (sym once ∙ runs))
      ∙ no_targets (slice_get jobs n.job)

  dropped : (n : Note) (ns : List Note) → pair_of jobs n ≡ None → filter_map (pair_of jobs) ns ≡ [] → filter_map (pair_of jobs) (n ∷ ns) ≡ []
  dropped n ns one all = rw one all

  no_pairs : (s : State) (ds : List Changes) (made : List Made) (notes : List Note) → AreNotes s ds made notes → All IsOnce notes → filter_map (pair_of jobs) notes ≡ []
  no_pairs s ds [] [] noted once = refl
  no_pairs s ds [] (n ∷ ns) noted once = absurd noted
  no_pairs s ds (m ∷ ms) [] noted once = absurd noted
  no_pairs s ds (m ∷ ms) (n ∷ ns) noted once =
      dropped n ns (no_pair n (All-head IsOnce n ns once) noted.0.runs) (no_pairs (after m.effect s) _ ms ns noted.1 (All-tail IsOnce n ns once))

  pub none_learnt : (s : State) (ds : List Changes) (made : List Made) (notes : List Note) → AreNotes s ds made notes → All IsOnce notes → learnt jobs notes ≡ []
  unfolding learnt
  none_learnt s ds made notes noted once = ap collected (no_pairs s ds made notes noted once)

pub still : ((ps qs : List Pair) → IsHistory ps → IsHistory qs → IsHistory (united ps qs))
    → ((ps qs : List Pair) → IsHistory ps → IsHistory qs → (p : Pair) → Contains (united ps qs) p ↔ (Contains ps p ⊎ Contains qs p))
    → ((ps : List Pair) → IsHistory (collected ps))
    → ((ps qs : List Pair) → IsHistory ps → IsHistory qs → ((p : Pair) → Contains ps p ↔ Contains qs p) → ps ≡ qs)
    → (ps : List Pair) → IsHistory ps → united ps [] ≡ ps
still history both collects one ps is =
    let bare : IsHistory [] = collects [] in
    one (united ps []) ps (history ps [] is bare) is
    (λ p. (
      (λ h. ⊎_elim (λ i. i) (λ i. absurd (none p i)) ((both ps [] is bare p).0 h)),
      (λ h. (both ps [] is bare p).1 (inl h)),
    ))
  where
    none : (p : Pair) → Contains [] p → ⊥
    none p (k, low, at) = absurd (omega (arith, low))
