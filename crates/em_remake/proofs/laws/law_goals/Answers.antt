use Rattle.std.specs.Prelude.{Contains}
use Rattle.std.proofs.lemmas.List.Elements.{All-filter, All-contains_itself}
use Rattle.em_remake.specs.Remaking.{candidates, is_goal, goals_of}
use Rattle.em_remake.proofs.Choosing.{goals_not_phony, no_goals}
use Rattle.em_remake.proofs.laws.law_goals.Goals as goal

pub returns : goal.returns
unfolding goals_of
returns c = record {
  candidate = λ r tree cwd. All-filter (is_goal r.book tree cwd) (Contains (candidates r)) (candidates r) (All-contains_itself (candidates r));
  phony = λ r tree cwd. goals_not_phony r.book tree cwd (candidates r);
  none = λ r tree cwd. no_goals r.book tree cwd (candidates r);
}
