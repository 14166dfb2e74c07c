use Rattle.std.proofs.Common.{◌∙◌, ap, sym, subst, List, ℕ}
use Rattle.em_tree.specs.declared.question.Question.TheVariants as ask
use Rattle.em_tree.specs.Answers.{answer}
use Rattle.em_chain.specs.Listing.{IsListing, names_told}
use Rattle.em_chain.proofs.Naming.{listing_of_tree, listing_of_none}
use Rattle.em_chain.proofs.versions.Versions.first_names.Goals as goal

pub returns-in-Some : goal.returns-in-Some
returns-in-Some c = rw (← c.self.view_is) (
    let s = c.self.inside.start in
    let told = c.in-Some.ensures ∙ ap names_told c.in_ok-answer.ensures.ok ∙ ap (λ (p : List ℕ). names_told (answer s (ask.Names p))) c.in_ok-copy.ensures in
    let same = c.in_ok-name_set-in-Some.ensures ∙ c.names.ensures.names in
    subst (λ (ns : List (List ℕ)). IsListing c.args.p.now s.tree ns) (sym same) (listing_of_tree s.tree c.args.p.now c.in-Some.list c.kind-kind.ensures.tree (sym told) c.names.ensures.rising))

pub returns : goal.returns
returns c = rw (← c.self.view_is) (
    let s = c.self.inside.start in
    let told = c.in-None.ensures ∙ ap names_told c.in_ok-answer.ensures.ok ∙ ap (λ (p : List ℕ). names_told (answer s (ask.Names p))) c.in_ok-copy.ensures in
    subst (λ (ns : List (List ℕ)). IsListing c.args.p.now s.tree ns) (sym c.new.ensures.empty) (listing_of_none s.tree c.args.p.now c.kind-kind.ensures.tree (sym told)))
