use Rattle.std.proofs.Common.{◌≡◌, ◌∙◌, sym, ap, List, ℕ, [], Some, Result, Ok}
use Rattle.std.specs.FinMap.{empty}
use Rattle.em_base.specs.declared.memory.NoMemory.{NoMemory}
use Rattle.em_vars.specs.Entries.{Entries}
use Rattle.em_reader.specs.declared.makefiles.Round.{Round}
use Rattle.em_tree.specs.declared.state.State.{State}
use Rattle.em_tree.specs.Answers.{answer}
use Rattle.em_view.specs.Actions.{Workspace}
use Rattle.em_view.specs.Performs.{Told}
use Rattle.em_view.proofs.Performing.{on_state}
use Rattle.em_reading.specs.declared.no.ReadNo.{ReadNo}
use Rattle.em_reader.specs.Makefiles.{fresh}
use Rattle.em_reader.proofs.States.{free_with}
use Rattle.em_reader.proofs.makefiles.read_round.Goals as goal

same : {x y : Entries} → (let a : Result Entries NoMemory = Ok x in let b : Result Entries NoMemory = Ok y in a ≡ b) → x ≡ y
same h = cc

pub returns : goal.returns
returns g given =
    let seen = ap (λ d. d.view) g.new-desk.ensures ∙ g.new-2.ensures in
    let plain = ap (λ (s : State). let f : Told = λ i q. Some (answer s q) in f) seen in
    let work : g.new-desk.result.work ≡ fresh = ap (λ d. d.work) g.new-desk.ensures ∙ ap (λ (n : ℕ). let w : Workspace = record { base = 0; job = 0; given = n; fuel = n; count = 0; changes = empty; asked = [] } in w) g.new-3.ensures in
    let none : g.in_ok-defaults.defaults ≡ [] = same g.in_ok-defaults.ensures in
    let kept = free_with g.noting.result g.noting.new.said ∙ given in
    let did = (on_state g.args.state.now plain (ap (λ d. d.usage) g.new-desk.ensures) kept g.noting.ensures.performs).0 in
    sym (ap (λ (z : Result (Round × List ℕ) (ReadNo × List ℕ) × Workspace). z.0) (rw (work, none, g.new-4.ensures) at did))
