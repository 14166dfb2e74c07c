use Rattle.std.proofs.Common.{◌≤◌, subst, sym, List, ℕ}
use Rattle.std.specs.FinMap.{from_entries}
use Rattle.em_chain.specs.Posts.{Floored}
use Rattle.em_chain.specs.Listing.{IsListing, changed_at}
use Rattle.em_chain.specs.Floors.{change_over, table_over}
use Rattle.em_chain.proofs.Naming.{listing_touched, listing_untouched, parents_of}
use Rattle.em_chain.proofs.Posting.{stands, untouched, lies_seen}
use Rattle.em_tree.specs.Names.{children_of}
use Rattle.em_chain.specs.Lines.{merged_in}
use Rattle.em_chain.proofs.versions.Versions.lay_all.Goals as goal

pub returns-in_default : goal.returns-in_default
returns-in_default c = rw (← c.self.view_is) (
    let ps = from_entries c.self.inside.posts.entries in
    let v : Floored = record { start = c.self.inside.start; floor = c.self.inside.floor; merged = merged_in c.self.inside.floor c.self.inside.lines; posts = ps } in
    let le = subst (λ (w : Floored). w.floor ≤ c.args.job) (sym c.self.view_is) c.requires.floor in
    listing_untouched (change_over v c.args.job) c.self.inside.lines v.start.tree (table_over v c.args.job) c.args.p.now
    (λ q. stands v c.args.job q (lies_seen c.self.inside.start c.self.inside.floor c.self.inside.lines ps c.args.job q le))
    (untouched c.self.inside.start c.self.inside.floor c.self.inside.lines ps c.self.invariant.1 c.args.job)
    c.args.set.now.keys c.in_default.ensures (subst (λ (w : Floored). IsListing c.args.p.now w.start.tree c.args.set.now.keys) (sym c.self.view_is) c.requires.listing))

pub returns : goal.returns
returns c = rw (← c.self.view_is) (
    let ps = from_entries c.self.inside.posts.entries in
    let v : Floored = record { start = c.self.inside.start; floor = c.self.inside.floor; merged = merged_in c.self.inside.floor c.self.inside.lines; posts = ps } in
    let le = subst (λ (w : Floored). w.floor ≤ c.args.job) (sym c.self.view_is) c.requires.floor in
    let goes = subst (λ (w : Floored). IsListing c.args.p.now (changed_at (change_over w c.args.job) (children_of c.self.inside.lines c.args.p.now) w.start.tree) c.amend_all.new.set.keys) (sym c.self.view_is)
    (subst (λ (qs : List (List ℕ)). IsListing c.args.p.now (changed_at (change_over c.args.self.now c.args.job) qs c.args.self.now.start.tree) c.amend_all.new.set.keys) c.in-Some.ensures
    (c.in_ok-amend_all.ensures c.args.p.now c.args.self.now.start.tree (parents_of c.args.p.now c.self.inside.lines c.in-Some.paths c.in-Some.ensures) c.requires.listing)) in
    listing_touched (change_over v c.args.job) c.self.inside.lines v.start.tree (table_over v c.args.job) c.args.p.now
    (λ q. stands v c.args.job q (lies_seen c.self.inside.start c.self.inside.floor c.self.inside.lines ps c.args.job q le))
    (untouched c.self.inside.start c.self.inside.floor c.self.inside.lines ps c.self.invariant.1 c.args.job)
    c.amend_all.new.set.keys goes)
