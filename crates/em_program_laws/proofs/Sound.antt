-- Where no cause applies, an order has one source, and its names differ: as in em_cmdline, whose
-- lemmas of this are its own.
use Rattle.std.proofs.Common.{◌≡◌, ◌∙◌, refl, ap, Bool, true, false, not, cond, ℕ, List, [], ◌∷◌, Option, Some, None, is_some, option_map, option_and_then, codes}
use Rattle.std.specs.Str.{bytes_eq}
use Rattle.std.proofs.lemmas.Slice.Eq.{bytes_eq-Decides}
use Rattle.clap.specs.Words.{Row, Text, first_of}
use Rattle.em_cmdline.specs.declared.order.WordNo.{WordNo}
use Rattle.em_cmdline.specs.declared.order.WordNo.TheVariants.{BadName, BadNumber, Missing, SameName}
use Rattle.em_cmdline.specs.Words.{Differ, HasNames, HasSource, bad_build_number, bad_name, bad_number, bad_value, causes, first_some, is_missing, is_one, order_from, positive, same, same_name, when}

no_second : {A : Type 0} (a b : Option A) → first_some (a ∷ b ∷ []) ≡ None → (a ≡ None) × (b ≡ None)
no_second None None e = (refl, refl)
no_second None (Some b) e = absurd cc
no_second (Some a) b e = absurd cc

no_third : {A : Type 0} (a b c : Option A) → first_some (a ∷ b ∷ c ∷ []) ≡ None → (a ≡ None) × (b ≡ None) × (c ≡ None)
no_third None None None e = (refl, refl, refl)
no_third None None (Some c) e = absurd cc
no_third None (Some b) c e = absurd cc
no_third (Some a) b c e = absurd cc

no_fourth : {A : Type 0} (a b c d : Option A) → first_some (a ∷ b ∷ c ∷ d ∷ []) ≡ None → (a ≡ None) × (b ≡ None) × (c ≡ None) × (d ≡ None)
no_fourth None b c d e = let (x, y, z) = no_third b c d e in (refl, x, y, z)
no_fourth (Some a) b c d e = absurd cc

unmapped : {A B : Type 0} (f : A → B) (o : Option A) → option_map f o ≡ None → o ≡ None
unmapped f None e = refl
unmapped f (Some a) e = absurd cc

not_when : (b : Bool) (e : WordNo) → when b e ≡ None → b ≡ false
not_when true e h = absurd cc
not_when false e h = refl

not_false : (b : Bool) → not b ≡ false → b ≡ true
not_false true e = refl
not_false false e = absurd cc

good_value : (limit : ℕ) (value : Option Text) → bad_value limit value ≡ None → is_some (option_and_then (positive limit) value) ≡ is_some value
good_value limit None e = refl
good_value limit (Some text) e = by (is_some (positive limit text)) refl e
  where
    by : (b : Bool) → is_some (positive limit text) ≡ b → cond b None (Some text) ≡ None → is_some (positive limit text) ≡ true
    by true is e = is
    by false is e = absurd cc

apart : (a b : Option Text) → same a b ≡ None → Differ a b
apart None b e = tt
apart (Some s) None e = tt
apart (Some s) (Some t) e = λ is. let both : bytes_eq s t ≡ true = (bytes_eq-Decides s t).1 is in absurd (let f : cond true (Some s) None ≡ None = rw both at e in cc)

record NoCause (rows : List Row) : Type 0 where
  missing : when (is_missing rows) Missing ≡ None
  number : option_map BadNumber (bad_number rows) ≡ None
  same : option_map SameName (same_name rows) ≡ None

no_cause : (rows : List Row) → first_some (causes rows) ≡ None → NoCause rows
no_cause rows none =
    let all = no_fourth (when (is_missing rows) Missing) (option_map BadNumber (bad_number rows)) (option_map BadName (bad_name rows)) (option_map SameName (same_name rows)) none in
    record { missing = all.0; number = all.1; same = all.3 }

pub has_source : (rows : List Row) → first_some (causes rows) ≡ None → HasSource (order_from rows)
has_source rows none =
    let no = no_cause rows none in
    let image = is_some (first_of (codes "image") rows) in
    let generate = first_of (codes "generate") rows in
    let explain = is_some (first_of (codes "explain") rows) in
    let numbers : bad_number rows ≡ None = unmapped BadNumber (bad_number rows) no.number in
    let workers = bad_value 64 (first_of (codes "workers") rows) in
    let fuel = bad_value 1000000 (first_of (codes "fuel") rows) in
    let of_build = (no_second (bad_build_number rows) (bad_value 64 (first_of (codes "agents") rows)) numbers).0 in
    let good = no_third workers fuel (bad_value 10000 generate) of_build in
    ap (λ g. is_one image g explain) (good_value 10000 generate good.2)
    ∙ not_false (is_one image (is_some generate) explain) (not_when (is_missing rows) Missing no.missing)

pub has_names : (rows : List Row) → first_some (causes rows) ≡ None → HasNames (order_from rows)
has_names rows none =
    let image = first_of (codes "image") rows in
    let history = first_of (codes "history") rows in
    let report = first_of (codes "report") rows in
    let names : same_name rows ≡ None = unmapped SameName (same_name rows) (no_cause rows none).same in
    let all = no_third (same image history) (same image report) (same history report) names in
    record { image_history = apart image history all.0; image_report = apart image report all.1; history_report = apart history report all.2 }
