-- Calls on a host one after another.
--     Tells-then, Tells-weaken, Tells-same      two calls, a call of which less is said, and no call at all
--     makes_none, makes_then                    no call, and calls that went well before others
--     front_then, front_more, front_none        a front of calls, behind others, before others, and none of them
--     fails_then, fails_more                    a call that failed, behind others and before others
--     take_went, replace_went, print_went       one call, as it answered
--     quiet_then, quiet_both                    that no call replaces a file, or none but the last one
--     front_printed, fails_printed, front_files, fails_files      what was printed and replaced is a front of what all the calls print and replace
use Rattle.std.proofs.Common.{◌≡◌, ℕ, zero, suc, ◌+◌, Bool, true, false, cond, List, [], ◌∷◌, ◌++◌, length, take, Option, Some, None, Result, Ok, Err, is_ok, is_err, OnOk, OnErr, refl, sym, ap, subst, ◌∙◌, inl, inr, ◌⊎◌, ⊎_elim, append_assoc, append-nil}
use Rattle.std.proofs.Math.Seq.{take-append_seam, take-append-add}
use Rattle.std.proofs.lemmas.List.{map-append}
use Rattle.std.specs.FinMap.{insert}
use Rattle.em_host.specs.declared.call.Call.{Call}
use Rattle.em_host.specs.declared.call.Call.TheVariants.{Take, Replace, Print}
use Rattle.em_host.specs.declared.no.HostNo.{HostNo}
use Rattle.em_host.specs.declared.no.HostNo.TheVariants.{Failed, NoMemory}
use Rattle.em_host.specs.Faults.{next_count}
use Rattle.em_host.specs.Outside.{Files, Outside, Tells, IsNoted, IsLost, Notes, Takes, Replaces, Prints}
use Rattle.em_host.specs.Calls.{printed_by, files_after, good, bad, Makes, MakesFront, FailsIn}

pub Tells-then : {P Q S : Outside → Outside → Type 0} (a b c : Option Outside) → ((x y z : Outside) → P x y → Q y z → S x z) → Tells P a b → Tells Q b c → Tells S a c
Tells-then None None None both p q = tt
Tells-then None None (Some z) both p q = q
Tells-then None (Some y) c both p q = absurd p
Tells-then (Some x) None c both p q = absurd p
Tells-then (Some x) (Some y) None both p q = q
Tells-then (Some x) (Some y) (Some z) both p q = both x y z p q

pub Tells-weaken : {P S : Outside → Outside → Type 0} (a b : Option Outside) → ((x y : Outside) → P x y → S x y) → Tells P a b → Tells S a b
Tells-weaken None None less p = tt
Tells-weaken None (Some y) less p = p
Tells-weaken (Some x) None less p = p
Tells-weaken (Some x) (Some y) less p = less x y p

pub Tells-same : (S : Outside → Outside → Type 0) (a : Option Outside) → ((x : Outside) → S x x) → Tells S a a
Tells-same S None same = tt
Tells-same S (Some x) same = same x

-- ---- what calls make of files and output

pub printed_by-append : (a b : List Call) → printed_by (a ++ b) ≡ printed_by a ++ printed_by b
printed_by-append [] b = refl
printed_by-append (Take name ∷ a) b = printed_by-append a b
printed_by-append (Replace name bytes ∷ a) b = printed_by-append a b
printed_by-append (Print text ∷ a) b = ap (λ s. text ++ s) (printed_by-append a b) ∙ sym (append_assoc text (printed_by a) (printed_by b))

pub files_after-append : (a b : List Call) (files : Files) → files_after (a ++ b) files ≡ files_after b (files_after a files)
files_after-append [] b files = refl
files_after-append (Take name ∷ a) b files = files_after-append a b files
files_after-append (Replace name bytes ∷ a) b files = files_after-append a b (insert files name bytes)
files_after-append (Print text ∷ a) b files = files_after-append a b files

-- ---- calls in a row

pub makes_none : (x : Outside) → Makes [] x x
makes_none x = record { noted = sym (append-nil x.calls); lost = refl; files = refl; printed = sym (append-nil x.printed) }

behind : {A : Type 0} (x y z a b : List A) → y ≡ x ++ a → z ≡ y ++ b → z ≡ x ++ (a ++ b)
behind x y z a b p q = q ∙ ap (λ s. s ++ b) p ∙ append_assoc x a b

behind_two : {A : Type 0} (x y z a b c : List A) → y ≡ x ++ a → z ≡ y ++ b ++ c → z ≡ x ++ (a ++ b) ++ c
behind_two x y z a b c p q = q ∙ ap (λ s. s ++ b ++ c) p ∙ ap (λ s. s ++ c) (append_assoc x a b)

pub makes_then : (a b : List Call) (x y z : Outside) → Makes a x y → Makes b y z → Makes (a ++ b) x z
makes_then a b x y z p q = record {
  noted = behind _ _ _ _ _ p.noted q.noted ∙ ap (λ s. x.calls ++ s) (sym (map-append good a b));
  lost = q.lost ∙ p.lost;
  files = q.files ∙ ap (files_after b) p.files ∙ sym (files_after-append a b x.files);
  printed = behind _ _ _ _ _ p.printed q.printed ∙ ap (λ s. x.printed ++ s) (sym (printed_by-append a b));
}

pub front_none : (calls : List Call) (x : Outside) → MakesFront calls x x
front_none calls x = record { made = []; left = calls; all = refl; done = makes_none x }

pub front_more : (a b : List Call) (x y : Outside) → MakesFront a x y → MakesFront (a ++ b) x y
front_more a b x y p = record { made = p.made; left = p.left ++ b; all = ap (λ s. s ++ b) p.all ∙ append_assoc p.made p.left b; done = p.done }

pub front_then : (a b : List Call) (x y z : Outside) → Makes a x y → MakesFront b y z → MakesFront (a ++ b) x z
front_then a b x y z p q = record { made = a ++ q.made; left = q.left; all = ap (λ s. a ++ s) q.all ∙ sym (append_assoc a q.made q.left); done = makes_then a q.made x y z p q.done }

pub fails_more : (noted : Bool) (a b : List Call) (x y : Outside) → FailsIn noted a x y → FailsIn noted (a ++ b) x y
fails_more noted a b x y p = record {
  made = p.made;
  last = p.last;
  left = p.left ++ b;
  all = ap (λ s. s ++ b) p.all ∙ append_assoc p.made (p.last ∷ p.left) b;
  noted = p.noted;
  lost = p.lost;
  files = p.files;
  printed = p.printed;
  failed = p.failed;
}

pub fails_then : (noted : Bool) (a b : List Call) (x y z : Outside) → Makes a x y → FailsIn noted b y z → FailsIn noted (a ++ b) x z
fails_then noted a b x y z p q = record {
  made = a ++ q.made;
  last = q.last;
  left = q.left;
  all = ap (λ s. a ++ s) q.all ∙ sym (append_assoc a q.made (q.last ∷ q.left));
  noted = behind_two _ _ _ _ _ _ p.noted q.noted ∙ ap (λ s. x.calls ++ s ++ cond noted (bad q.last ∷ []) []) (sym (map-append good a q.made));
  lost = q.lost ∙ ap (λ n. cond noted n (next_count n)) p.lost;
  files = q.files ∙ ap (files_after q.made) p.files ∙ sym (files_after-append a q.made x.files);
  printed = (q.printed.0, behind_two _ _ _ _ _ _ p.printed q.printed.1 ∙ ap (λ s. x.printed ++ s ++ take q.printed.0 (printed_by (q.last ∷ []))) (sym (printed_by-append a q.made)));
  failed = q.failed;
}

-- ---- one call

-- what the three calls have in common
record Acts {A : Type 0} (call : Call) (result : Result A HostNo) (x y : Outside) : Type 0 where
  files : y.files ≡ cond (is_ok result) (files_after (call ∷ []) x.files) x.files
  whole : OnOk result (y.printed ≡ x.printed ++ printed_by (call ∷ []))
  front : OnErr result ((n : ℕ) × (y.printed ≡ x.printed ++ take n (printed_by (call ∷ []))))
  noted : Notes call result x y
  failed : y.failed ≡ is_err result

takes : (name : List ℕ) (result : Result (Option (List ℕ)) HostNo) (x y : Outside) → Takes name result x y → Acts (Take name) result x y
takes name (Ok found) x y p = record { files = p.files; whole = p.printed ∙ sym (append-nil x.printed); front = tt; noted = p.noted; failed = p.failed }
takes name (Err e) x y p = record { files = p.files; whole = tt; front = (0, p.printed ∙ sym (append-nil x.printed)); noted = p.noted; failed = p.failed }

replaces : (name bytes : List ℕ) (result : Result (Unit {0}) HostNo) (x y : Outside) → Replaces name bytes result x y → Acts (Replace name bytes) result x y
replaces name bytes (Ok u) x y p = record { files = p.files; whole = p.printed ∙ sym (append-nil x.printed); front = tt; noted = p.noted; failed = p.failed }
replaces name bytes (Err e) x y p = record { files = p.files; whole = tt; front = (0, p.printed ∙ sym (append-nil x.printed)); noted = p.noted; failed = p.failed }

prints : (text : List ℕ) (result : Result (Unit {0}) HostNo) (x y : Outside) → Prints text result x y → Acts (Print text) result x y
prints text (Ok u) x y p = record { files = p.files; whole = p.whole ∙ ap (λ s. x.printed ++ s) (sym (append-nil text)); front = tt; noted = p.noted; failed = p.failed }
prints text (Err e) x y p = record { files = p.files; whole = tt; front = (p.front.0, p.front.1 ∙ ap (λ s. x.printed ++ take p.front.0 s) (sym (append-nil text))); noted = p.noted; failed = p.failed }

went_well : {A : Type 0} (call : Call) (a : A) (x y : Outside) → Acts call (Ok a) x y → Makes (call ∷ []) x y
went_well {A} call a x y p = ⊎_elim
    (λ (n : IsNoted {A = A} call (Ok a) x y). let m : Makes (call ∷ []) x y = record { noted = n.calls; lost = n.lost; files = p.files; printed = p.whole } in m)
    (λ (l : IsLost {A = A} (Ok a) x y). absurd (let e = l.answer in cc))
    p.noted

went_badly : {A : Type 0} (call : Call) (e : HostNo) (x y : Outside) → Acts {A = A} call (Err e) x y → IsNoted {A = A} call (Err e) x y → FailsIn true (call ∷ []) x y
went_badly call e x y p n = record {
  made = [];
  last = call;
  left = [];
  all = refl;
  noted = n.calls ∙ ap (λ s. s ++ bad call ∷ []) (sym (append-nil x.calls));
  lost = n.lost;
  files = p.files;
  printed = (p.front.0, p.front.1 ∙ ap (λ s. s ++ take p.front.0 (printed_by (call ∷ []))) (sym (append-nil x.printed)));
  failed = p.failed;
}

got_lost : {A : Type 0} (call : Call) (e : HostNo) (x y : Outside) → Acts {A = A} call (Err e) x y → IsLost {A = A} (Err e) x y → FailsIn false (call ∷ []) x y
got_lost call e x y p l = record {
  made = [];
  last = call;
  left = [];
  all = refl;
  noted = l.calls ∙ sym (append-nil x.calls) ∙ sym (append-nil (x.calls ++ []));
  lost = l.lost;
  files = p.files;
  printed = (0, l.printed ∙ sym (append-nil x.printed) ∙ sym (append-nil (x.printed ++ [])));
  failed = p.failed;
}

-- how a call went that answered so
abbrev pub Went : {A : Type 0} → Call → Result A HostNo → Outside → Outside → Type 0
Went call (Ok a) x y = Makes (call ∷ []) x y
Went call (Err Failed) x y = FailsIn true (call ∷ []) x y
Went call (Err NoMemory) x y = (noted : Bool) × FailsIn noted (call ∷ []) x y

went : {A : Type 0} (call : Call) (result : Result A HostNo) (x y : Outside) → Acts call result x y → Went call result x y
went call (Ok a) x y p = went_well call a x y p
went {A} call (Err Failed) x y p = ⊎_elim (λ (n : IsNoted {A = A} call (Err Failed) x y). went_badly call Failed x y p n) (λ (l : IsLost {A = A} (Err Failed) x y). absurd (let e = l.answer in cc)) p.noted
went {A} call (Err NoMemory) x y p = ⊎_elim
    (λ (n : IsNoted {A = A} call (Err NoMemory) x y). let r : (noted : Bool) × FailsIn noted (call ∷ []) x y = (true, went_badly call NoMemory x y p n) in r)
    (λ (l : IsLost {A = A} (Err NoMemory) x y). let r : (noted : Bool) × FailsIn noted (call ∷ []) x y = (false, got_lost call NoMemory x y p l) in r)
    p.noted

pub take_went : (name : List ℕ) (result : Result (Option (List ℕ)) HostNo) (x y : Outside) → Takes name result x y → Went (Take name) result x y
take_went name result x y p = went (Take name) result x y (takes name result x y p)

pub replace_went : (name bytes : List ℕ) (result : Result (Unit {0}) HostNo) (x y : Outside) → Replaces name bytes result x y → Went (Replace name bytes) result x y
replace_went name bytes result x y p = went (Replace name bytes) result x y (replaces name bytes result x y p)

pub print_went : (text : List ℕ) (result : Result (Unit {0}) HostNo) (x y : Outside) → Prints text result x y → Went (Print text) result x y
print_went text result x y p = went (Print text) result x y (prints text result x y p)

-- ---- what is printed and replaced where the calls break off

-- no call replaces a file; none but the last one does
abbrev pub IsQuiet : List Call → Type 0
IsQuiet [] = Unit {0}
IsQuiet (Take name ∷ calls) = IsQuiet calls
IsQuiet (Replace name bytes ∷ calls) = ⊥
IsQuiet (Print text ∷ calls) = IsQuiet calls

abbrev pub LastReplaces : List Call → Type 0
LastReplaces [] = Unit {0}
LastReplaces (Take name ∷ calls) = LastReplaces calls
LastReplaces (Replace name bytes ∷ calls) = calls ≡ []
LastReplaces (Print text ∷ calls) = LastReplaces calls

pub quiet_then : (a b : List Call) → IsQuiet a → LastReplaces b → LastReplaces (a ++ b)
quiet_then [] b q l = l
quiet_then (Take name ∷ a) b q l = quiet_then a b q l
quiet_then (Replace name bytes ∷ a) b q l = absurd q
quiet_then (Print text ∷ a) b q l = quiet_then a b q l

pub quiet_both : (a b : List Call) → IsQuiet a → IsQuiet b → IsQuiet (a ++ b)
quiet_both [] b q l = l
quiet_both (Take name ∷ a) b q l = quiet_both a b q l
quiet_both (Replace name bytes ∷ a) b q l = absurd q
quiet_both (Print text ∷ a) b q l = quiet_both a b q l

-- a front of the calls leaves the files, or makes of them what all the calls do
old_or_new : (calls made left : List Call) (files : Files) → calls ≡ made ++ left → LastReplaces calls → (files_after made files ≡ files) ⊎ (files_after made files ≡ files_after calls files)
old_or_new calls [] left files e l = inl refl
old_or_new [] (m ∷ made) left files e l = absurd (cc)
old_or_new (Take name ∷ calls) (m ∷ made) left files e l =
    let head : Take name ≡ m = cc in
    let rest : calls ≡ made ++ left = cc in
    subst (λ c. (files_after (c ∷ made) files ≡ files) ⊎ (files_after (c ∷ made) files ≡ files_after calls files)) head (old_or_new calls made left files rest l)
old_or_new (Replace name bytes ∷ calls) (m ∷ []) left files e l =
    let head : Replace name bytes ≡ m = cc in
    inr (subst (λ c. files_after (c ∷ []) files ≡ files_after calls (insert files name bytes)) head (ap (λ c. files_after c (insert files name bytes)) (sym l)))
old_or_new (Replace name bytes ∷ calls) (m ∷ d ∷ made) left files e l = absurd (let rest : calls ≡ d ∷ (made ++ left) = cc in cc)
old_or_new (Print text ∷ calls) (m ∷ made) left files e l =
    let head : Print text ≡ m = cc in
    let rest : calls ≡ made ++ left = cc in
    subst (λ c. (files_after (c ∷ made) files ≡ files) ⊎ (files_after (c ∷ made) files ≡ files_after calls files)) head (old_or_new calls made left files rest l)

front_left : (a b : List ℕ) (n : ℕ) → (k : ℕ) × (take n a ≡ take k (a ++ b))
front_left a b zero = (0, refl)
front_left [] b (suc n) = (0, refl)
front_left (x ∷ a) b (suc n) = let rest = front_left a b n in (suc rest.0, ap (λ s. x ∷ s) rest.1)

module _ (calls : List Call) (x y : Outside) where
  pub front_printed : MakesFront calls x y → (n : ℕ) × (y.printed ≡ x.printed ++ take n (printed_by calls))
  front_printed p =
      let made = printed_by p.made in
      let all : take (length made) (printed_by calls) ≡ made = ap (λ c. take (length made) (printed_by c)) p.all ∙ ap (take (length made)) (printed_by-append p.made p.left) ∙ take-append_seam made (printed_by p.left) in
      (length made, p.done.printed ∙ ap (λ s. x.printed ++ s) (sym all))

  pub fails_printed : (is_noted : Bool) → FailsIn is_noted calls x y → (n : ℕ) × (y.printed ≡ x.printed ++ take n (printed_by calls))
  fails_printed is_noted p =
      let made = printed_by p.made in
      let front = front_left (printed_by (p.last ∷ [])) (printed_by p.left) p.printed.0 in
      let tail : take front.0 (printed_by (p.last ∷ []) ++ printed_by p.left) ≡ take front.0 (printed_by (p.last ∷ p.left)) = ap (take front.0) (sym (printed_by-append (p.last ∷ []) p.left)) in
      let all : take (length made + front.0) (printed_by calls) ≡ made ++ take front.0 (printed_by (p.last ∷ p.left))
      = ap (λ c. take (length made + front.0) (printed_by c)) p.all ∙ ap (take (length made + front.0)) (printed_by-append p.made (p.last ∷ p.left)) ∙ take-append-add made (printed_by (p.last ∷ p.left)) front.0 in
      (length made + front.0, p.printed.1 ∙ append_assoc x.printed made _ ∙ ap (λ s. x.printed ++ (made ++ s)) (front.1 ∙ tail) ∙ ap (λ s. x.printed ++ s) (sym all))

  pub front_files : LastReplaces calls → MakesFront calls x y → (y.files ≡ x.files) ⊎ (y.files ≡ files_after calls x.files)
  front_files last p = ⊎_elim (λ h. inl (p.done.files ∙ h)) (λ h. inr (p.done.files ∙ h)) (old_or_new calls p.made p.left x.files p.all last)

  pub fails_files : (is_noted : Bool) → LastReplaces calls → FailsIn is_noted calls x y → (y.files ≡ x.files) ⊎ (y.files ≡ files_after calls x.files)
  fails_files is_noted last p = ⊎_elim (λ h. inl (p.files ∙ h)) (λ h. inr (p.files ∙ h)) (old_or_new calls p.made (p.last ∷ p.left) x.files p.all last)
