-- What looks stand for, as entries are appended.
use Rattle.std.proofs.Common.{◌≡◌, ◌↔◌, ◌≤◌, ◌<◌, ◌-◌, ℕ, zero, suc, List, [], ◌∷◌, ◌++◌, Option, Some, None, refl, sym, ap, subst, ◌∙◌, append_assoc, append-nil, arith, length, get_or}
use Rattle.std.specs.Prelude.{IsSome, IfOk, Result, Ok, Err}
use Rattle.std.specs.Option.{option_to_list}
use Rattle.std.specs.FinMap.{get}
use Rattle.em_path.specs.Paths.{parent_text}
use Rattle.em_tree.specs.declared.question.Answer.TheVariants as told
use Rattle.em_tree.specs.declared.question.Entry.{Entry}
use Rattle.em_tree.specs.declared.state.State.{State}
use Rattle.em_tree.specs.declared.usage.Clear.{Clear}
use Rattle.em_tree.specs.declared.usage.Clear.TheVariants.{Above, Through}
use Rattle.em_tree.specs.declared.usage.Look.{Look}
use Rattle.em_tree.specs.Answers.{answer, Agrees}
use Rattle.em_tree.specs.Flags.{HasNone}
use Rattle.em_tree.specs.Trees.{link_of}
use Rattle.em_tree.specs.Usages.{no_link, clear_links, path_in, parent_in, cleared, entries_of, flat}

pub flat-append : (ls ms : List Look) → flat (ls ++ ms) ≡ flat ls ++ flat ms
flat-append [] ms = refl
flat-append (l ∷ ls) ms = ap (λ es. entries_of l ++ es) (flat-append ls ms) ∙ sym (append_assoc (entries_of l) (flat ls) (flat ms))

pub flat-one : (ls : List Look) (l : Look) → flat (ls ++ l ∷ []) ≡ flat ls ++ entries_of l
flat-one ls l = flat-append ls (l ∷ []) ∙ ap (λ es. flat ls ++ es) (append-nil (entries_of l))

pub goes_on : (ls : List Look) (l : Look) (c : Clear) (e : Entry) → cleared c (path_in e.question) ≡ entries_of l → flat (ls ++ record { clear = c; entry = e } ∷ []) ≡ flat (ls ++ l ∷ []) ++ e ∷ []
goes_on ls l c e same =
    flat-one ls (record { clear = c; entry = e }) ∙ ap (λ es. flat ls ++ (es ++ e ∷ [])) same ∙ sym (append_assoc (flat ls) (entries_of l) (e ∷ [])) ∙ ap (λ es. es ++ e ∷ []) (sym (flat-one ls l))

-- the last look in place of that which was taken
pub goes_on_popped : (ls ms s : List Look) (r : Option Look) (n : ℕ) (c : Clear) (e : Entry) → ms ≡ ls ++ option_to_list r → s ≡ ms → (s ≡ [] → ⊥) → length s ≡ n → (0 < n → IsSome r) → ((ks : List Look) (l : Look) → s ≡ ks ++ l ∷ [] → cleared c (path_in e.question) ≡ entries_of l) → flat (ls ++ record { clear = c; entry = e } ∷ []) ≡ flat ms ++ e ∷ []
goes_on_popped ls ms s (Some l) n c e is same some len there last = goes_on ls l c e (last ls l (same ∙ is)) ∙ ap (λ xs. flat xs ++ e ∷ []) (sym is)
goes_on_popped ls ms [] None n c e is same some len there last = absurd (some refl)
goes_on_popped ls ms (l ∷ s) None n c e is same some len there last = let h : IsSome {T = Look} None = there (omega (arith, len)) in absurd (cc)

pub begins : (ls : List Look) (e : Entry) → flat (ls ++ record { clear = Above 0; entry = e } ∷ []) ≡ flat ls ++ e ∷ []
begins ls e = flat-one ls (record { clear = Above 0; entry = e })

pub nowhere : (c : Clear) → cleared c None ≡ []
nowhere (Above zero) = refl
nowhere (Above (suc n)) = refl
nowhere (Through zero) = refl
nowhere (Through (suc n)) = refl

pub clear-none : (n : ℕ) → clear_links n None ≡ []
clear-none zero = refl
clear-none (suc n) = refl

pub clear-more : (n : ℕ) (p : List ℕ) → 1 ≤ n → clear_links n (Some p) ≡ clear_links (n - 1) (parent_text p) ++ no_link p ∷ []
clear-more zero p le = absurd (omega (arith, le))
clear-more (suc n) p le = let e : n ≡ suc n - 1 = omega arith in ap (λ k. clear_links k (parent_text p) ++ no_link p ∷ []) e

-- a state agrees with two lists where it agrees with each
pub agrees-both : (s : State) (es fs : List Entry) → Agrees s es → Agrees s fs → Agrees s (es ++ fs)
agrees-both s [] fs a b = b
agrees-both s (e ∷ es) fs a b = (a.0, agrees-both s es fs a.1 b)

pub agrees-first : (s : State) (es fs : List Entry) → Agrees s (es ++ fs) → Agrees s es
agrees-first s [] fs a = tt
agrees-first s (e ∷ es) fs a = (a.0, agrees-first s es fs a.1)

pub agrees-second : (s : State) (es fs : List Entry) → Agrees s (es ++ fs) → Agrees s fs
agrees-second s [] fs a = a
agrees-second s (e ∷ es) fs a = agrees-second s es fs a.1

no_answer : (x : Option (List ℕ)) → told.Link x ≡ told.Link None → x ≡ None
no_answer x e = cc

-- of a path and what is above it
pub clear-step : (s : State) (n : ℕ) (p : List ℕ) → 1 ≤ n → link_of (get s.tree p) ≡ None → Agrees s (clear_links n (Some p)) ↔ Agrees s (clear_links (n - 1) (parent_text p))
clear-step s n p le none = (
  λ a. agrees-first s (clear_links (n - 1) (parent_text p)) (no_link p ∷ []) (subst (Agrees s) (clear-more n p le) a),
  λ a. subst (Agrees s) (sym (clear-more n p le)) (agrees-both s (clear_links (n - 1) (parent_text p)) (no_link p ∷ []) a (ap told.Link none, tt)),
)

pub clear-next : (s : State) (n : ℕ) (at next : Option (List ℕ)) (p : List ℕ) (A : Type 0) → 1 ≤ n → at ≡ Some p → link_of (get s.tree p) ≡ None → next ≡ parent_text p → A ↔ Agrees s (clear_links n at) → A ↔ Agrees s (clear_links (n - 1) next)
clear-next s n at next p A le is none up inv =
    let step = clear-step s n p le none in
    let there = ap (clear_links n) is in
    let then = ap (clear_links (n - 1)) up in (
      λ a. subst (Agrees s) (sym then) (step.0 (subst (Agrees s) there (inv.0 a))),
      λ b. inv.1 (subst (Agrees s) (sym there) (step.1 (subst (Agrees s) then b))),
    )

pub clear-not : (s : State) (n : ℕ) (p text : List ℕ) → 1 ≤ n → link_of (get s.tree p) ≡ Some text → Agrees s (clear_links n (Some p)) → ⊥
clear-not s n p text le some a =
    let b = agrees-second s (clear_links (n - 1) (parent_text p)) (no_link p ∷ []) (subst (Agrees s) (clear-more n p le) a) in
    let none : link_of (get s.tree p) ≡ None = no_answer (link_of (get s.tree p)) b.0 in
    let e : Some text ≡ None = sym some ∙ none in absurd (cc)

-- where there are no links at all
pub all_clear : (s : State) → HasNone s.tree → (n : ℕ) (p : Option (List ℕ)) → Agrees s (clear_links n p)
all_clear s none zero p = tt
all_clear s none (suc n) None = tt
all_clear s none (suc n) (Some p) = agrees-both s (clear_links n (parent_text p)) (no_link p ∷ []) (all_clear s none n (parent_text p)) (ap told.Link (none p), tt)

pub way_clear : (s : State) → HasNone s.tree → (c : Clear) (p : Option (List ℕ)) → Agrees s (cleared c p)
way_clear s none (Above n) p = all_clear s none n (parent_in p)
way_clear s none (Through n) p = all_clear s none n p

-- a look among others
pub agrees-look : (s : State) (ls : List Look) (i : ℕ) (d : Look) → i < length ls → Agrees s (flat ls) → Agrees s (entries_of (get_or ls i d))
agrees-look s [] i d lt a = absurd (omega (arith, lt))
agrees-look s (l ∷ ls) zero d lt a = agrees-first s (entries_of l) (flat ls) a
agrees-look s (l ∷ ls) (suc i) d lt a = agrees-look s ls i d (omega (arith, lt)) (agrees-second s (entries_of l) (flat ls) a)

-- one look more
pub agrees-more : (s : State) (ls : List Look) (l : Look) → Agrees s (flat ls) → Agrees s (entries_of l) → Agrees s (flat (ls ++ l ∷ []))
agrees-more s ls l a b = subst (Agrees s) (sym (flat-one ls l)) (agrees-both s (flat ls) (entries_of l) a b)

-- of the entries of a look
pub look-agrees : (s : State) (l : Look) → Agrees s (cleared l.clear (path_in l.entry.question)) → answer s l.entry.question ≡ l.entry.answer → Agrees s (entries_of l)
look-agrees s l a b = agrees-both s (cleared l.clear (path_in l.entry.question)) (l.entry ∷ []) a (b, tt)

pub look-way : (s : State) (l : Look) → Agrees s (entries_of l) → Agrees s (cleared l.clear (path_in l.entry.question))
look-way s l a = agrees-first s (cleared l.clear (path_in l.entry.question)) (l.entry ∷ []) a

pub look-last : (s : State) (l : Look) → Agrees s (entries_of l) → answer s l.entry.question ≡ l.entry.answer
look-last s l a = (agrees-second s (cleared l.clear (path_in l.entry.question)) (l.entry ∷ []) a).0

pub if_ok : {A E : Type 0} (r : Result A E) (P Q : A → Type 0) → ((a : A) → P a → Q a) → IfOk r P → IfOk r Q
if_ok (Ok a) P Q f h = f a h
if_ok (Err e) P Q f h = tt
