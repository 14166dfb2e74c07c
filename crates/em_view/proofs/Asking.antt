-- What one question does to a desk.
use Rattle.std.proofs.Common.{◌≡◌, ℕ, ◌+◌, true, List, [], ◌∷◌, ◌++◌, length, map, Option, None, Result, Ok, Err, refl, sym, ap, subst, ◌∙◌, arith, append-nil}
use Rattle.std.proofs.lemmas.List.{map-append}
use Rattle.em_tree.specs.declared.question.Question.{Question}
use Rattle.em_tree.specs.declared.question.Answer.{Answer}
use Rattle.em_tree.specs.declared.question.Entry.{Entry}
use Rattle.em_tree.specs.Answers.{answer, Agrees, AgreesWith}
use Rattle.std.specs.FinMap.{get, empty, get-empty}
use Rattle.em_tree.specs.declared.node.Node.{Node}
use Rattle.em_tree.specs.declared.state.State.{State}
use Rattle.em_tree.specs.Trees.{Table, Changes, IsTree, laid_over}
use Rattle.em_tree.proofs.Maps.{order}
use Rattle.em_tree.proofs.Laying.{over, same_table}
use Rattle.em_tree.proofs.Lawful.{get-laid_over}
use Rattle.std.specs.Prelude.{IsErrAnd}
use Rattle.em_view.specs.declared.no.DeskNo.{DeskNo}
use Rattle.em_view.specs.declared.no.DeskNo.TheVariants as no
use Rattle.em_view.specs.Actions.{AgreesFrom, ask}
use Rattle.em_view.specs.Performs.{DeskState, Told, Grows, Performs}
use Rattle.em_view.specs.Held.{Fits, NamesPaths, IsSound}
use Rattle.em_view.specs.Asking.{Asks}
use Rattle.em_view.specs.Rows.{is_memory}

pub fits_none : Fits [] empty
fits_none s tree all = subst (λ (t : Table). IsTree t) (same_table s.tree (laid_over empty s.tree) (λ q. ap (λ (o : Option (Option Node)). over o (get s.tree q)) (sym (get-empty order q)) ∙ sym (get-laid_over empty s.tree q))) tree

pub paths_none : NamesPaths empty
paths_none p is = let none : get {X = Option Node} {R = order} empty p ≡ None = get-empty order p in absurd (cc)

agrees_front : (f : Question → Answer) (xs ys : List Entry) → AgreesWith f (xs ++ ys) → AgreesWith f xs × AgreesWith f ys
agrees_front f [] ys h = (tt, h)
agrees_front f (x ∷ xs) ys h = let both = agrees_front f xs ys h.1 in ((h.0, both.0), both.1)

-- a state that agrees with all that was answered agrees with what was answered before and since
pub agreed : (us es vs : List Entry) → vs ≡ us ++ es → (s : State) → Agrees s vs → Agrees s us × Agrees s es
agreed us es vs grew s all = agrees_front (answer s) us es (subst (λ (l : List Entry). Agrees s l) grew all)

pub fits_grown : (us es vs : List Entry) (d : Changes) → vs ≡ us ++ es → Fits us d → Fits vs d
fits_grown us es vs d e f = λ s tree all. f s tree (agreed us es vs e s all).0

pub sound_grown : (greatest given fuel count : ℕ) (us es vs : List Entry) (d : Changes) → vs ≡ us ++ es → IsSound greatest given fuel count us d → IsSound greatest given fuel count vs d
sound_grown greatest given fuel count us es vs d e h = record { base = h.base; small = h.small; room = h.room; fits = fits_grown us es vs d e h.fits; paths = h.paths }

-- memory ran out before anything was answered
pub not_asked : {V : Type 0} {tells : V → Told} (q : Question) (v w : V) (us : List Entry) (r : Result Answer DeskNo) → ((i : ℕ) (x : Question) → tells w i x ≡ tells v i x) → IsErrAnd r (λ e. e ≡ no.NoMemory)
    → Asks tells q v w us us r
not_asked q v w us (Ok a) same is = absurd is
not_asked {tells = tells} q v w us (Err e) same is = record {
  entries = [];
  grew = sym (append-nil us);
  told = tt;
  one = tt;
  ahead = λ i x. same i x ∙ (let n : i ≡ 0 + i = omega arith in ap (λ n. tells v n x) n);
  only = is;
}

module _ {V : Type 0} (base job given fuel count : ℕ) (changes : Changes) where
  abbrev pub desk : V → List Entry → DeskState V
  desk v us = record { view = v; usage = us; work = record { base = base; job = job; given = given; fuel = fuel; count = count; changes = changes; asked = map (λ (e : Entry). e.question) us } }

  abbrev asked_grew : {tells : V → Told} {q : Question} {v w : V} {us vs : List Entry} {r : Result Answer DeskNo} (h : Asks tells q v w us vs r) → Grows tells (desk v us) (desk w vs)
  asked_grew {us = us} h = record {
    entries = h.entries;
    grew = h.grew;
    asked = ap (map (λ (e : Entry). e.question)) h.grew ∙ map-append (λ (e : Entry). e.question) us h.entries;
    told = h.told;
    ahead = h.ahead;
    burns = omega arith;
    base = refl;
    job = refl;
    given = refl;
  }

  pub asks_performs : {tells : V → Told} (q : Question) (v w : V) (us vs : List Entry) (r : Result Answer DeskNo) → Asks tells q v w us vs r → Performs is_memory tells (desk v us) (desk w vs) r (ask q)
  unfolding ask
  asks_performs {tells} q v w us vs (Ok a) h = record {
    grows = asked_grew h;
    plain = λ k o all.
        let number = length (map (λ (e : Entry). e.question) us) in
        let said = (subst (λ (es : List Entry). AgreesFrom number o es) h.one all).0 in
        let asked : map (λ (e : Entry). e.question) us ++ q ∷ [] ≡ map (λ (e : Entry). e.question) vs =
        sym (map-append (λ (e : Entry). e.question) us (record { question = q; answer = a } ∷ [])) ∙ sym (ap (map (λ (e : Entry). e.question)) (h.grew ∙ ap (λ es. us ++ es) h.one)) in
        cc;
  }
  asks_performs q v w us vs (Err e) h = record { grows = asked_grew h; plain = λ k. absurd (let yes : is_memory e ≡ true = ap is_memory h.only in cc) }
