use Rattle.std.proofs.Common.{◌∙◌, ap, sym, Some, ℕ, option_map}
use Rattle.std.specs.Ordering.{nat_cmp}
use Rattle.std.specs.FinMap.{get, insert, from_entries}
use Rattle.std.specs.BTreeMap.{BTreeMap}
use Rattle.em_tree.specs.Trees.{Changes}
use Rattle.em_chain.specs.Posts.{Posts}
use Rattle.em_chain.specs.declared.post.Post.{Post}
use Rattle.em_chain.proofs.Posting.{post_found, post_put, left_at, left_none}
use Rattle.em_tree.proofs.Indexes.{some_is}
use Rattle.em_chain.proofs.marks.take_delta.Goals as goal

pub returns-in-Some-clause-delta : goal.returns-in-Some-clause-delta
returns-in-Some-clause-delta c =
    ap (λ (d : Changes). Some d) c.replace.ensures.value ∙ ap (option_map (λ (p : Post). p.delta)) (c.in-Some.ensures.value ∙ post_found c.args.posts.now.entries c.args.job)

pub returns-in-Some-clause-left : goal.returns-in-Some-clause-left
returns-in-Some-clause-left c = λ k.
    let w : Post = record { delta = c.replace.new.dest; outcome = c.in-Some.post.now.outcome } in
    let found = sym (post_found c.args.posts.now.entries c.args.job) ∙ sym c.in-Some.ensures.value in
    ap (λ (ps : Posts). get ps k) (post_put c.args.posts.now (c.get_mut.follows.lender w) c.args.job w ((c.get_mut.follows.holds w).3 (some_is c.in-Some.ensures.value)))
    ∙ ap (λ (d : Changes). get (insert (from_entries {R = nat_cmp} c.args.posts.now.entries) c.args.job (record { delta = d; outcome = c.in-Some.post.now.outcome })) k) (c.replace.ensures.after ∙ c.new.ensures)
    ∙ left_at (from_entries c.args.posts.now.entries) c.args.job k c.in-Some.post.now found

pub returns-in-None-clause-delta : goal.returns-in-None-clause-delta
returns-in-None-clause-delta c = ap (option_map (λ (p : Post). p.delta)) (c.in-None.ensures.value ∙ post_found c.args.posts.now.entries c.args.job)

pub returns-in-None-clause-left : goal.returns-in-None-clause-left
returns-in-None-clause-left c = λ k. ap (λ (m : BTreeMap ℕ Post). get (from_entries {R = nat_cmp} m.entries) k) c.get_mut.follows.holds-at-none ∙ left_none (from_entries {R = nat_cmp} c.args.posts.now.entries) c.args.job k (c.in-None.ensures.value ∙ post_found c.args.posts.now.entries c.args.job)
