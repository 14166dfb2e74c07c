-- Marks, one name after another.
--     opening_both, closing_both      what is opened or closed in two steps
--     opened_one, closed_one          a mark that is taken out and put in again
use Rattle.std.proofs.Common.{◌≡◌, ◌∙◌, refl, sym, ap, ℕ, Bool, true, false, cond, ◌||◌, List, [], ◌∷◌, ◌++◌, Option, Some, None}
use Rattle.std.specs.FinMap.{get, insert, remove, get-remove}
use Rattle.std.specs.Cmp.Lexicographic.{nat_list_cmp_total}
use Rattle.std.proofs.lemmas.List.Folds.{list_any-append}
use Rattle.em_base.proofs.Lemmas.{get_put, same_key}
use Rattle.em_plan.specs.declared.marks.VisitMark.{VisitMark}
use Rattle.em_plan.specs.Once.{is_among, same}
use Rattle.em_plan.specs.Resuming.{Marks, closing, jobs_mark, open_in, open_mark, opening}

pub opening_both : (a b : Bool) (m : Option VisitMark) → opening a (opening b m) ≡ opening (b || a) m
opening_both true true m = refl
opening_both true false m = refl
opening_both false true m = refl
opening_both false false m = refl

pub closing_both : (k : ℕ) (a b : Bool) (m : Option VisitMark) → closing k a (closing k b m) ≡ closing k (b || a) m
closing_both k true true None = refl
closing_both k true true (Some m) = by_mark m.begun refl
  where
    by_mark : (o : Bool) → m.begun ≡ o → closing k true (closing k true (Some m)) ≡ closing k true (Some m)
    by_mark true is = rw is refl
    by_mark false is = rw is refl
closing_both k true false m = refl
closing_both k false true m = refl
closing_both k false false m = refl

pub among_more : (xs ys : List (List ℕ)) (q : List ℕ) → is_among (xs ++ ys) q ≡ (is_among xs q || is_among ys q)
among_more xs ys q = list_any-append (same q) xs ys

taken : (marks : Marks) (n q : List ℕ) (m : VisitMark) → get (insert (remove marks n) n m) q ≡ cond (same q n) (Some m) (get marks q)
taken marks n q m = get_put (remove marks n) n m q ∙ ap (cond (same q n) (Some m)) (get-remove nat_list_cmp_total marks n q) ∙ either (same q n) (Some m) (get marks q)
  where
    either : (b : Bool) (x y : Option VisitMark) → cond b x (cond b None y) ≡ cond b x y
    either true x y = refl
    either false x y = refl

pub opened_one : (marks : Marks) (n q : List ℕ) (ks : List ℕ) → ks ≡ jobs_mark (get marks n) → get (insert (remove marks n) n (record { begun = true; jobs = ks })) q ≡ opening (same q n) (get marks q)
opened_one marks n q ks is = taken marks n q _ ∙ by_name (same q n) refl
  where
    by_name : (b : Bool) → same q n ≡ b → cond b (Some (record { begun = true; jobs = ks })) (get marks q) ≡ opening b (get marks q)
    by_name true e = ap (λ (l : List ℕ). let m : VisitMark = record { begun = true; jobs = l } in Some m) (is ∙ ap (λ k. jobs_mark (get marks k)) (sym (same_key q n e)))
    by_name false e = refl

pub closed_one : (marks : Marks) (n q : List ℕ) (ks : List ℕ) (k : ℕ) → open_in marks n ≡ true → ks ≡ jobs_mark (get marks n) ++ k ∷ []
    → get (insert (remove marks n) n (record { begun = false; jobs = ks })) q ≡ closing k (same q n) (get marks q)
closed_one marks n q ks k there is = taken marks n q _ ∙ by_name (same q n) refl
  where
    by_name : (b : Bool) → same q n ≡ b → cond b (Some (record { begun = false; jobs = ks })) (get marks q) ≡ closing k b (get marks q)
    by_name true e =
        let own : q ≡ n = same_key q n e in
        let open_q : open_mark (get marks q) ≡ true = ap (open_in marks) own ∙ there in
        rw open_q (ap (λ (l : List ℕ). let m : VisitMark = record { begun = false; jobs = l } in Some m) (is ∙ ap (λ x. jobs_mark (get marks x) ++ k ∷ []) (sym own)))
    by_name false e = refl

pub closed_none : (marks : Marks) (n q : List ℕ) (k : ℕ) → open_in marks n ≡ false → get marks q ≡ closing k (same q n) (get marks q)
closed_none marks n q k shut = by_name (same q n) refl
  where
    by_name : (b : Bool) → same q n ≡ b → get marks q ≡ closing k b (get marks q)
    by_name true e =
        let shut_q : open_mark (get marks q) ≡ false = ap (open_in marks) (same_key q n e) ∙ shut in
        rw shut_q refl
    by_name false e = refl
