use Rattle.std.proofs.Common.{inl, inr, ⊎_elim, []}
use Rattle.std.specs.List.{filter}
use Rattle.em_history.specs.Histories.{fits, united, collected}
use Rattle.em_history.proofs.Placing.{all_fit, history_united, history_collected, among_united, kept_united, among_from, among_to, Among, among_filtered, among_fitting, fit_among, fit_filtered}
use Rattle.em_history.proofs.Lines.{own_united}
use Rattle.em_history.proofs.laws.law_united.Goals as goal

pub returns-clause-history : goal.returns-clause-history
returns-clause-history c = λ ps qs g h. history_united ps qs (all_fit ps g) h

pub returns-clause-both : goal.returns-clause-both
returns-clause-both c = λ ps qs g h p. (
  λ m. ⊎_elim (λ n. inl (among_to ps p n)) (λ n. inr (among_to qs p n)) (among_united ps qs p (among_from (united ps qs) p m)),
  λ m. among_to (united ps qs) p (⊎_elim (λ n. own_united ps qs p (all_fit ps g) (all_fit qs h) (among_from ps p n)) (λ n. kept_united ps qs p (among_from qs p n)) m),
)

pub returns-clause-collected : goal.returns-clause-collected
returns-clause-collected c = history_collected

pub returns-clause-fitting : goal.returns-clause-fitting
returns-clause-fitting c = λ ps p. (
  λ m. let there : Among p (filter fits ps) = ⊎_elim (λ n. n) (λ n. absurd n) (among_united (filter fits ps) [] p (among_from (collected ps) p m)) in
      (among_to ps p (among_filtered ps p there), fit_among (filter fits ps) p (fit_filtered ps) there),
  λ m. among_to (collected ps) p (own_united (filter fits ps) [] p (fit_filtered ps) tt (among_fitting ps p m.1 (among_from ps p m.0))),
)
