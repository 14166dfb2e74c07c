use Rattle.std.proofs.Common.{◌≡◌, ◌∙◌, ◌⊎◌, inl, inr, Bool, refl, sym, ap, Bor}
use Rattle.em_syntax.specs.declared.tree.Script.{Script}
use Rattle.em_word.specs.Held.{plan_of, word_of, mode_of, IsCounted, staged, arounds}
use Rattle.em_word.specs.declared.expander.Expander.{Expander}
use Rattle.em_word.specs.declared.expander.ExpanderStage.{ExpanderStage}
use Rattle.em_word.specs.declared.expander.ExpanderStage.TheVariants.{Ready, Waiting}
use Rattle.em_word.proofs.Stepping.{is_same}
use Rattle.em_word.proofs.Landing.{given_first}
use Rattle.em_word.proofs.expander.Expander.take_output.Goals as goal

pub use_output-requires : goal.use_output-requires
unfolding IsCounted
use_output-requires g c = record { runs = c.in-Given.ensures.after; counted = c.requires.counted }

pub returns-in-Given-clause-goes : goal.returns-in-Given-clause-goes
unfolding mode_of
returns-in-Given-clause-goes g c = rw (given_first c.args.self.now c.in-Given.quoted c.in-Given.output (sym c.in-Given.ensures.value)) (rw c.bytes.ensures at c.use_output.ensures.goes)

pub returns-in-Given-clause-same : goal.returns-in-Given-clause-same
unfolding word_of mode_of
returns-in-Given-clause-same g c = c.use_output.ensures.same

-- nothing was handed in
idle : (e : Expander) (s : ExpanderStage) → e.stage ≡ s → (s ≡ Ready) ⊎ ((x : Bool) × (t : Bor Script) × (s ≡ Waiting x t)) → plan_of e ≡ plan_of (record e { stage = Ready })
unfolding plan_of
idle e s is (inl r) = ap (λ t. staged t (arounds e) e.parts e.rest.now) (is ∙ r)
idle e s is (inr w) = ap (λ t. staged t (arounds e) e.parts e.rest.now) (is ∙ w.2)

pub returns-in-Ready : goal.returns-in-Ready
unfolding word_of mode_of IsCounted
returns-in-Ready g c = record {
  goes = record {
    leads = is_same (idle c.args.self.now c.replace.result (sym c.replace.ensures.value) c.in-Ready.is ∙ ap (λ s. plan_of (record c.args.self.now { stage = s })) (sym c.replace.ensures.after));
    steady = record { runs = c.replace.ensures.after; counted = c.requires.counted };
  };
  same = (refl, refl);
}
