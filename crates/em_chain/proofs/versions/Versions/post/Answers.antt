use Rattle.std.proofs.Common.{◌≡◌, ◌≤◌, ◌∙◌, ap, sym, subst, option_map, List, ℕ}
use Rattle.std.specs.Prelude.{option_copied}
use Rattle.std.specs.FinMap.{entries, from_entries}
use Rattle.em_chain.specs.declared.post.Post.{Post}
use Rattle.em_chain.specs.Posts.{Posts, Merged, Floored}
use Rattle.em_chain.specs.Lines.{chain_at, merged_in}
use Rattle.em_chain.specs.Marks.{ChangeList, names, dropped}
use Rattle.em_chain.proofs.Posting.{post_put, keeps_posted, fit_sorted, post_held, post_merged, fail_held, fail_merged, same_merged}
use Rattle.em_tree.proofs.Maps.{at_err}
use Rattle.em_chain.specs.Chains.{head_below}
use Rattle.em_chain.proofs.versions.Versions.post.Goals as goal

pub stage-requires-clause-posted : goal.stage-requires-clause-posted
stage-requires-clause-posted c = λ q. keeps_posted c.self.inside.floor c.self.inside.posts c.self.inside.lines c.args.job (subst (λ (w : Floored). w.floor ≤ c.args.job) (sym c.self.view_is) c.requires) c.self.invariant.1 q (option_copied c.delta_of-old.result) c.delta_of-old.ensures

pub stage-requires-clause-sorted : goal.stage-requires-clause-sorted
stage-requires-clause-sorted c = λ q. fit_sorted c.self.inside.floor c.self.inside.posts c.self.inside.lines c.args.job (subst (λ (w : Floored). w.floor ≤ c.args.job) (sym c.self.view_is) c.requires) c.self.invariant.1 q

pub invariant_of-self-in-Ok : goal.invariant_of-self-in-Ok
invariant_of-self-in-Ok c =
    let post : Post = record { delta = c.args.d; outcome = c.args.o } in
    let same : c.as_slice.result.now ≡ c.in_ok-changes.changes.items = c.as_slice.ensures.value in (
      c.in-Ok.ensures.ordered,
      post_held c.self.inside.floor c.self.inside.posts c.self.inside.lines c.args.job (subst (λ (w : Floored). w.floor ≤ c.args.job) (sym c.self.view_is) c.requires) c.self.invariant.1
          c.insert.new.self c.commit.new.lines c.stage.new.lines c.in_ok-changes.changes.items c.in_ok-stage.ensures.roomed (λ q h. c.in_ok-stage.ensures.others q (ap (λ (es : ChangeList). names es q) same ∙ h))
          post (option_copied c.delta_of-keep.result) c.in-Ok.old c.in_ok-changes.ensures
          (c.delta_of-keep.ensures ∙ ap (option_map (λ (p : Post). p.delta)) c.in-Ok.ensures.updates.1) c.in-Ok.ensures.old c.commit.ensures c.in-Ok.ensures.updates,
    )

pub invariant_of-self-in-Err-1 : goal.invariant_of-self-in-Err-1
invariant_of-self-in-Err-1 c =
    let same : c.as_slice.result.now ≡ c.in_ok-changes.changes.items = c.as_slice.ensures.value in
    let back : entries c.in-Err.failed.value.1.delta ≡ c.in_ok-changes.changes.items = ap (λ (p : ℕ × Post). entries p.1.delta) c.in-Err.ensures.value_returned ∙ sym c.in_ok-changes.ensures in (
      c.in-Err.ensures.ordered,
      fail_held c.self.inside.floor c.self.inside.posts c.self.inside.lines c.args.job (subst (λ (w : Floored). w.floor ≤ c.args.job) (sym c.self.view_is) c.requires) c.self.invariant.1
          c.insert.new.self c.drop_stale.new.lines c.stage.new.lines c.in_ok-changes.changes.items c.in_ok-stage.ensures.roomed (λ q h. c.in_ok-stage.ensures.others q (ap (λ (es : ChangeList). names es q) same ∙ h))
          (option_copied c.delta_of-keep-in-Err.result) c.delta_of-keep-in-Err.ensures c.in-Err.ensures.err
          (λ q. c.drop_stale.ensures q ∙ ap (λ (es : ChangeList). dropped c.args.job (option_copied c.delta_of-keep-in-Err.result) q es (chain_at c.stage.new.lines q)) back),
    )

pub returns-in-Ok-clause-ok : goal.returns-in-Ok-clause-ok
returns-in-Ok-clause-ok c =
    let post : Post = record { delta = c.args.d; outcome = c.args.o } in
    let same : c.as_slice.result.now ≡ c.in_ok-changes.changes.items = c.as_slice.ensures.value in
    let merged = post_merged c.self.inside.floor c.self.inside.posts c.self.inside.lines c.args.job (subst (λ (w : Floored). w.floor ≤ c.args.job) (sym c.self.view_is) c.requires) c.self.invariant.1
    c.insert.new.self c.commit.new.lines c.stage.new.lines c.in_ok-changes.changes.items c.in_ok-stage.ensures.roomed (λ q h. c.in_ok-stage.ensures.others q (ap (λ (es : ChangeList). names es q) same ∙ h))
    post (option_copied c.delta_of-keep.result) c.in-Ok.old c.in_ok-changes.ensures
    (c.delta_of-keep.ensures ∙ ap (option_map (λ (p : Post). p.delta)) c.in-Ok.ensures.updates.1) c.in-Ok.ensures.old c.commit.ensures c.in-Ok.ensures.updates in
    rw (← c.self.view_is) (
    let with : Merged → Posts → Floored = λ m ps. record { start = c.self.inside.start; floor = c.self.inside.floor; merged = m; posts = ps } in
    ap (λ (m : Merged). with m (from_entries c.insert.new.self.entries)) merged ∙ ap (with (merged_in c.self.inside.floor c.self.inside.lines)) (post_put c.self.inside.posts c.insert.new.self c.args.job _ c.in-Ok.ensures.updates))

pub returns-in_err-stage-clause-err : goal.returns-in_err-stage-clause-err
returns-in_err-stage-clause-err c =
    let with : Merged → Floored = λ m. record { start = c.self.inside.start; floor = c.self.inside.floor; merged = m; posts = from_entries c.self.inside.posts.entries } in
    at_err _ (ap with (same_merged c.self.inside.floor c.stage.new.lines c.self.inside.lines (λ q. ap (head_below c.self.inside.floor) (c.in_err-stage.ensures.err q))) ∙ c.self.view_is)

pub returns-in-Err-clause-err : goal.returns-in-Err-clause-err
returns-in-Err-clause-err c =
    let same : c.as_slice.result.now ≡ c.in_ok-changes.changes.items = c.as_slice.ensures.value in
    let back : entries c.in-Err.failed.value.1.delta ≡ c.in_ok-changes.changes.items = ap (λ (p : ℕ × Post). entries p.1.delta) c.in-Err.ensures.value_returned ∙ sym c.in_ok-changes.ensures in
    let merged = fail_merged c.self.inside.floor c.self.inside.posts c.self.inside.lines c.args.job (subst (λ (w : Floored). w.floor ≤ c.args.job) (sym c.self.view_is) c.requires) c.self.invariant.1
    c.insert.new.self c.drop_stale.new.lines c.stage.new.lines c.in_ok-changes.changes.items c.in_ok-stage.ensures.roomed (λ q h. c.in_ok-stage.ensures.others q (ap (λ (es : ChangeList). names es q) same ∙ h))
    (option_copied c.delta_of-keep-in-Err.result) c.delta_of-keep-in-Err.ensures c.in-Err.ensures.err
    (λ q. c.drop_stale.ensures q ∙ ap (λ (es : ChangeList). dropped c.args.job (option_copied c.delta_of-keep-in-Err.result) q es (chain_at c.stage.new.lines q)) back) in
    let with : Merged → Posts → Floored = λ m ps. record { start = c.self.inside.start; floor = c.self.inside.floor; merged = m; posts = ps } in
    ap (λ (m : Merged). with m (from_entries c.insert.new.self.entries)) merged
    ∙ ap (λ (es : List (ℕ × Post)). with (merged_in c.self.inside.floor c.self.inside.lines) (from_entries es)) c.in-Err.ensures.err ∙ c.self.view_is
