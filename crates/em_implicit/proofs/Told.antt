-- On a tree the search by questions finds what is found.
--     told_then         one after another, told one after another
--     told_found        the law
use Rattle.std.proofs.Common.{◌≡◌, ◌∙◌, refl, sym, ap, ℕ, ◌+◌, ◌<◌, Bool, true, false, ◌&&◌, ◌||◌, cond, ltb, List, [], ◌∷◌, ◌++◌, length, Option, Some, None, arith, ltb-true, lt-ltb}
use Rattle.std.specs.Prelude.{fold}
use Rattle.std.specs.List.{list_all}
use Rattle.em_base.proofs.Lemmas.{by_cases}
use Rattle.em_path.specs.declared.path.PathNo.{PathNo}
use Rattle.em_path.specs.Reading.{read_fault, resolved_text}
use Rattle.em_tree.specs.Trees.{Table}
use Rattle.em_rules.specs.declared.rule.Rule.{Rule}
use Rattle.em_rules.specs.Rules.{is_mentioned}
use Rattle.em_implicit.specs.declared.seek.Found.{Found}
use Rattle.em_implicit.specs.Matches.{match_of}
use Rattle.em_implicit.specs.Implicit as tree
use Rattle.em_implicit.specs.Implicit.{beats, shorter, found}
use Rattle.em_implicit.specs.Asking.{Asking, Had, Ask, and_then, told}
use Rattle.em_implicit.specs.Seeking.{Candidate, stands, candidate_by, matches_of, matches_from, matches, put, stem_size, by_stem, path_by, path_of, path_there, name_there, if_there, all_there, applying, or_next, seek, seeking}
use Rattle.em_implicit.proofs.Stems.{Low, Rising, put_rising}

pub told_then : {A B : Type 0} (f : List ℕ → Bool) (x : Asking A) (k : A → Asking B) → told f (and_then x k) ≡ told f (k (told f x))
told_then f (Had a) k = refl
told_then f (Ask p x) k = told_then f (x (f p)) k

-- ---- the first whose rule applies

module _ (ok : Candidate → Bool) where
  abbrev pub first : List Candidate → Option Found
  first [] = None
  first (c ∷ cs) = cond (ok c) (Some c.found) (first cs)

  abbrev pub kept : List Candidate → List Found
  kept [] = []
  kept (c ∷ cs) = cond (ok c) (c.found ∷ kept cs) (kept cs)

  kept_joined : (cs ds : List Candidate) → kept (cs ++ ds) ≡ kept cs ++ kept ds
  kept_joined [] ds = refl
  kept_joined (c ∷ cs) ds = by (ok c) (kept_joined cs ds)
    where
      by : (t : Bool) → kept (cs ++ ds) ≡ kept cs ++ kept ds → cond t (c.found ∷ kept (cs ++ ds)) (kept (cs ++ ds)) ≡ cond t (c.found ∷ kept cs) (kept cs) ++ kept ds
      by true e = ap (λ (fs : List Found). c.found ∷ fs) e
      by false e = e

  -- what is longer doesn't stand against it
  longer : (stem : List ℕ) (n : ℕ) (ds : List Candidate) → Low stem_size n ds → length stem < n → beats stem (first ds) ≡ true
  longer stem n [] low lt = refl
  longer stem n (d ∷ ds) low lt = by (ok d) (omega (arith, low.0)) (longer stem n ds low.1 lt)
    where
      by : (t : Bool) → length stem < stem_size d → beats stem (first ds) ≡ true → beats stem (cond t (Some d.found) (first ds)) ≡ true
      by true less e = lt-ltb (length stem) (stem_size d) less
      by false less e = e

  first_put : (ds : List Candidate) (c : Candidate) → Rising stem_size ds → first (put stem_size ds c) ≡ cond (ok c) (shorter (first ds) c.found) (first ds)
  first_put [] c h = refl
  first_put (d ∷ ds) c h = by_cases (ltb (stem_size c) (stem_size d))
      (λ t. ltb (stem_size c) (stem_size d) ≡ t → first (cond t (c ∷ d ∷ ds) (d ∷ put stem_size ds c)) ≡ cond (ok c) (shorter (first (d ∷ ds)) c.found) (first (d ∷ ds)))
      (λ _ is. let less : stem_size c < stem_size d = ltb-true _ _ is in before (ok c) (longer c.found.stem (stem_size d) (d ∷ ds) ((omega arith, h.0)) less))
      (λ _ isnt. behind (ok c) (ok d) isnt (first_put ds c h.1)) refl
    where
      before : (t : Bool) → beats c.found.stem (first (d ∷ ds)) ≡ true → cond t (Some c.found) (first (d ∷ ds)) ≡ cond t (shorter (first (d ∷ ds)) c.found) (first (d ∷ ds))
      before true e = sym (ap (λ w. cond w (Some c.found) (first (d ∷ ds))) e)
      before false e = refl

      behind : (t u : Bool) → ltb (stem_size c) (stem_size d) ≡ false → first (put stem_size ds c) ≡ cond t (shorter (first ds) c.found) (first ds)
          → cond u (Some d.found) (first (put stem_size ds c)) ≡ cond t (shorter (cond u (Some d.found) (first ds)) c.found) (cond u (Some d.found) (first ds))
      behind true true e rest = sym (ap (λ w. cond w (Some c.found) (Some d.found)) e)
      behind false true e rest = refl
      behind t false e rest = rest

  pub first_fold : (ds cs : List Candidate) → Rising stem_size ds → first (fold (put stem_size) ds cs) ≡ fold shorter (first ds) (kept cs)
  first_fold ds [] h = refl
  first_fold ds (c ∷ cs) h = first_fold (put stem_size ds c) cs (put_rising stem_size ds c h) ∙ ap (λ (b : Option Found). fold shorter b (kept cs)) (first_put ds c h) ∙ by (ok c)
    where
      by : (t : Bool) → fold shorter (cond t (shorter (first ds) c.found) (first ds)) (kept cs) ≡ fold shorter (first ds) (cond t (c.found ∷ kept cs) (kept cs))
      by true = refl
      by false = refl

-- ---- what is told of a tree

module _ (rules : List Rule) (table : Table) (cwd : List ℕ) where
  path_told : (fault : Option PathNo) (name : List ℕ) → told (stands table) (path_there (path_by fault (resolved_text cwd name))) ≡ tree.exists_by fault table cwd name
  path_told None name = refl
  path_told (Some fault) name = refl

  name_told : (name : List ℕ) → told (stands table) (name_there rules cwd name) ≡ tree.is_there rules table cwd name
  name_told name = by (is_mentioned rules name)
    where
      by : (t : Bool) → told (stands table) (cond t (Had true) (path_there (path_of cwd name))) ≡ (t || tree.exists table cwd name)
      by true = refl
      by false = path_told (read_fault cwd name) name

  all_told : (names : List (List ℕ)) → told (stands table) (all_there rules cwd names) ≡ list_all (tree.is_there rules table cwd) names
  all_told [] = refl
  all_told (name ∷ names) = told_then (stands table) (name_there rules cwd name) (if_there rules cwd (all_there rules cwd names))
      ∙ ap (λ t. told (stands table) (if_there rules cwd (all_there rules cwd names) t)) (name_told name) ∙ by (tree.is_there rules table cwd name) (all_told names)
    where
      by : (t : Bool) → told (stands table) (all_there rules cwd names) ≡ list_all (tree.is_there rules table cwd) names → told (stands table) (if_there rules cwd (all_there rules cwd names) t) ≡ (t && list_all (tree.is_there rules table cwd) names)
      by true e = e
      by false e = refl

  abbrev ok : Candidate → Bool
  ok c = list_all (tree.is_there rules table cwd) c.normal && list_all (tree.is_there rules table cwd) c.order

  applying_told : (c : Candidate) → told (stands table) (applying rules cwd c) ≡ ok c
  applying_told c = told_then (stands table) (all_there rules cwd c.normal) (if_there rules cwd (all_there rules cwd c.order))
      ∙ ap (λ t. told (stands table) (if_there rules cwd (all_there rules cwd c.order) t)) (all_told c.normal) ∙ by (list_all (tree.is_there rules table cwd) c.normal)
    where
      by : (t : Bool) → told (stands table) (if_there rules cwd (all_there rules cwd c.order) t) ≡ (t && list_all (tree.is_there rules table cwd) c.order)
      by true = all_told c.order
      by false = refl

  seek_told : (cs : List Candidate) → told (stands table) (seek rules cwd cs) ≡ first ok cs
  seek_told [] = refl
  seek_told (c ∷ cs) = told_then (stands table) (applying rules cwd c) (or_next rules cwd c (seek rules cwd cs))
      ∙ ap (λ t. told (stands table) (or_next rules cwd c (seek rules cwd cs) t)) (applying_told c) ∙ by (ok c) (seek_told cs)
    where
      by : (t : Bool) → told (stands table) (seek rules cwd cs) ≡ first ok cs → told (stands table) (or_next rules cwd c (seek rules cwd cs) t) ≡ cond t (Some c.found) (first ok cs)
      by true e = refl
      by false e = e

  module _ (target : List ℕ) where
    one_kept : (i k : ℕ) (r : Rule) (m : Option (List ℕ × List ℕ)) → kept ok (candidate_by i k r m) ≡ tree.candidate rules table cwd i r k m
    one_kept i k r None = refl
    one_kept i k r (Some m) = refl

    of_kept : (k i : ℕ) (r : Rule) (ps : List (List ℕ)) → kept ok (matches_of k target i r ps) ≡ tree.candidates_of k rules table cwd target i r ps
    of_kept k i r [] = refl
    of_kept k i r (p ∷ ps) = kept_joined ok (candidate_by i k r (match_of p target)) (matches_of (k + 1) target i r ps)
        ∙ ap (λ (fs : List Found). fs ++ kept ok (matches_of (k + 1) target i r ps)) (one_kept i k r (match_of p target))
        ∙ ap (λ (fs : List Found). tree.candidate rules table cwd i r k (match_of p target) ++ fs) (of_kept (k + 1) i r ps)

    all_kept : (i : ℕ) (patterns : List Rule) → kept ok (matches_from i patterns target) ≡ tree.candidates_from i rules patterns table cwd target
    all_kept i [] = refl
    all_kept i (r ∷ patterns) = kept_joined ok (matches_of 0 target i r r.targets) (matches_from (i + 1) patterns target)
        ∙ ap (λ (fs : List Found). fs ++ kept ok (matches_from (i + 1) patterns target)) (of_kept 0 i r r.targets)
        ∙ ap (λ (fs : List Found). tree.candidates_of 0 rules table cwd target i r r.targets ++ fs) (all_kept (i + 1) patterns)

    pub told_found : (patterns : List Rule) → told (stands table) (seeking rules patterns cwd target) ≡ found rules patterns table cwd target
    told_found patterns = seek_told (by_stem (matches patterns target)) ∙ first_fold ok [] (matches patterns target) tt ∙ ap (λ (fs : List Found). fold shorter None fs) (all_kept 0 patterns)
