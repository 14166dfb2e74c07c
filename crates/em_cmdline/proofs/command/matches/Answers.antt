use Rattle.std.proofs.Common.{◌≡◌, ◌≢◌, ◌⊎◌, ◌∙◌, [], map, true, ap, subst, refl, IfOk, IfErr}
use Rattle.clap.specs.Words.{App, fault_of, found_of, is_simple_and_free, matches_of, rows_of}
use Rattle.em_cmdline.specs.declared.order.WordNo.TheVariants as no
use Rattle.em_cmdline.specs.Words.{faults, found, order_app}
use Rattle.em_cmdline.proofs.command.matches.Goals as goal

simple : is_simple_and_free order_app ≡ true
unfolding order_app
simple = refl

pub matches_by-requires : goal.matches_by-requires
matches_by-requires c = ap is_simple_and_free c.in_ok-command.ensures ∙ simple

pub returns-clause-ok : goal.returns-clause-ok
unfolding faults found
returns-clause-ok c =
    let words = map (λ s. s.now) c.args.words.now in
    subst (λ (a : App). IfOk c.matches_by.result (λ m. (fault_of a words ≡ []) × (rows_of (found_of m) ≡ matches_of a words))) c.in_ok-command.ensures c.matches_by.ensures.ok

pub returns-clause-err : goal.returns-clause-err
unfolding faults
returns-clause-err c =
    let words = map (λ s. s.now) c.args.words.now in
    subst (λ (a : App). IfErr c.matches_by.result (λ e. (e ≡ no.NoMemory) ⊎ ((e ≡ no.Unknown) × (fault_of a words ≢ [])))) c.in_ok-command.ensures c.matches_by.ensures.err
