use Rattle.std.proofs.Common.{◌≡◌, ℕ, ◌+◌, length, length-append, arith, Bool, true, false, ◌||◌, List, ◌∷◌, refl, sym, ap, subst, ◌∙◌}
use Rattle.std.specs.List.{list_any, flat_map}
use Rattle.std.proofs.lemmas.List.Concat.{flat_map-cons}
use Rattle.em_image.specs.Image.{limits, node_text, image_text, is_link, is_too_big, is_too_late}
use Rattle.em_tree.specs.declared.node.Node.{Node}
use Rattle.em_tree.specs.declared.node.Node.TheVariants.{File, Dir, Link}
use Rattle.em_tree.specs.LinkTexts.{IsLinkText}
use Rattle.em_image.proofs.Nodes.{Says}
use Rattle.em_image.proofs.Links.{AllSay, links_from}
use Rattle.em_image.proofs.Chain.{Entry}
use Rattle.em_image.proofs.writing.measured.Goals as goal

or_assoc : (a b d : Bool) → ((a || b) || d) ≡ (a || (b || d))
or_assoc true b d = refl
or_assoc false b d = refl

-- what was found, or holds of the next entry, or is found behind it
one_more : (p : Entry → Bool) (e : Entry) (es next : List Entry) (a b w : Bool) → es ≡ e ∷ next → b ≡ p e → (a || list_any p es) ≡ w → ((a || b) || list_any p next) ≡ w
one_more p e es next a b w step here found = or_assoc a b (list_any p next) ∙ ap (λ x. a || (x || list_any p next)) here ∙ ap (λ (l : List Entry). a || list_any p l) (sym step) ∙ found

-- the room shrinks by the text of the next entry
one_less : (e : Entry) (es next : List Entry) (room left whole limit : ℕ) → es ≡ e ∷ next → left + length (node_text e) ≡ room
    → room + whole ≡ limit + length (flat_map node_text es) → left + whole ≡ limit + length (flat_map node_text next)
one_less e es next room left whole limit step fits all =
    let text : length (flat_map node_text es) ≡ length (node_text e) + length (flat_map node_text next) =
    ap (λ (l : List Entry). length (flat_map node_text l)) step ∙ ap length (flat_map-cons node_text e next) ∙ length-append (node_text e) (flat_map node_text next) in
    omega (arith, text, fits, all)

says_node : (n : Node) → ((text : List ℕ) (stamp : ℕ) → n ≡ Link text stamp → IsLinkText text) → Says n
says_node (File body stamp) h = tt
says_node (Dir stamp) h = tt
says_node (Link text stamp) h = h text stamp refl

one_says : {W : Type 0} (e : Entry) (es next : List Entry) → es ≡ e ∷ next → Says e.1 → (AllSay es → W) → AllSay next → W
one_says e es next step here found = λ rest. found (subst AllSay (sym step) (here, rest))

pub loop-path-preserved : goal.loop-path-preserved
loop-path-preserved c =
    let e : Entry = (c.in-Some.path.now, c.in-Some.node.now) in
    record {
      room = one_less e _ _ c.loop-path.room c.in_ok-room.room (length (image_text c.args.tree.now)) limits.image c.in-Some.ensures.steps c.in_ok-room.ensures c.loop-path.invariant.room;
      link = one_more is_link e _ _ c.loop-path.has_link c.is_link-has_link.result _ c.in-Some.ensures.steps (c.is_link-has_link.ensures.link c.in-Some.path.now) c.loop-path.invariant.link;
      big = one_more (is_too_big limits) e _ _ c.loop-path.has_big_file c.is_big-has_big_file.result _ c.in-Some.ensures.steps (c.is_big-has_big_file.ensures c.in-Some.path.now) c.loop-path.invariant.big;
      say = one_says e _ _ c.in-Some.ensures.steps (says_node e.1 c.is_link-has_link.ensures.text) c.loop-path.invariant.say;
      late = one_more (is_too_late limits) e _ _ c.loop-path.has_late_stamp c.is_late-has_late_stamp.result _ c.in-Some.ensures.steps (c.is_late-has_late_stamp.ensures c.in-Some.path.now) c.loop-path.invariant.late;
    }

pub returns-clause-links : goal.returns-clause-links
returns-clause-links c = links_from c.args.tree.now (c.loop-path.invariant.say (subst AllSay (sym c.in-None.ensures.steps.0) tt))
