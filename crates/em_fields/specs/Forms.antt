-- The forms of `$name` and `${name..}` on a variable's text, `None` where it is unset.
--     form_of name form argued   the form that is written so
--     has colon v                the variable is set, with a colon: to more than the empty text
--     early_value form v status        the value, where the argument doesn't bear on it
use Rattle.std.specs.Prelude.{ℕ, ◌==◌, ◌&&◌, ◌||◌, Bool, true, false, not, List, [], ◌∷◌, length, Option, Some, None, decimal, if◌then◌else◌}
use Rattle.em_fields.specs.declared.cut.Cut.TheVariants.{ShortSuffix, LongSuffix, ShortPrefix, LongPrefix}
use Rattle.em_fields.specs.declared.form.Form.{Form}
use Rattle.em_fields.specs.declared.form.Form.TheVariants.{Value, Length, Status, Default, Assign, Error, Alternative, Cut}
use Rattle.em_fields.specs.declared.form.Late.{Late}
use Rattle.em_fields.specs.declared.form.Late.TheVariants.{Keep, Complain}
use Rattle.em_fields.specs.declared.form.Late.TheVariants as late
use Rattle.em_fields.specs.declared.form.Early.{Early}
use Rattle.em_fields.specs.declared.form.Early.TheVariants.{Text, Number, Argument}

abbrev pub bare_form : List ℕ → List ℕ → Option Form
bare_form name [] = Some Value
bare_form name (b ∷ []) = if b == 35 then Some Length else if (b == 63) && (length name == 0) then Some Status else None
bare_form name (b ∷ c ∷ cs) = None

-- `-`, `=`, `?` or `+`
abbrev pub word_form : Bool → ℕ → Option Form
word_form colon b =
    if b == 45 then Some (Default colon)
    else if b == 61 then Some (Assign colon)
    else if b == 63 then Some (Error colon)
    else if b == 43 then Some (Alternative colon)
    else None

-- `%` or `#`
abbrev pub short_cut : ℕ → Option Form
short_cut b = if b == 37 then Some (Cut ShortSuffix) else if b == 35 then Some (Cut ShortPrefix) else word_form false b

-- `%%`, `##`, or a colon before `-`, `=`, `?`, `+`
abbrev pub long_form : ℕ → ℕ → Option Form
long_form b c =
    if b == 58 then word_form true c
    else if (b == 37) && (c == 37) then Some (Cut LongSuffix)
    else if (b == 35) && (c == 35) then Some (Cut LongPrefix)
    else None

abbrev pub argued_form : List ℕ → Option Form
argued_form [] = None
argued_form (b ∷ []) = short_cut b
argued_form (b ∷ c ∷ []) = long_form b c
argued_form (b ∷ c ∷ d ∷ ds) = None

abbrev pub form_of : List ℕ → List ℕ → Bool → Option Form
form_of name form true = argued_form form
form_of name form false = bare_form name form

abbrev pub has : Bool → Option (List ℕ) → Bool
has colon None = false
has colon (Some v) = not colon || not (length v == 0)

abbrev pub text : Option (List ℕ) → List ℕ
text None = []
text (Some v) = v

-- the value is this, or takes the argument
abbrev pub unless_set : Bool → Option (List ℕ) → Option (List ℕ)
unless_set true v = Some (text v)
unless_set false v = None

abbrev pub if_set : Bool → Option (List ℕ)
if_set true = None
if_set false = Some []

abbrev pub early_value : Form → Option (List ℕ) → ℕ → Option (List ℕ)
early_value Value v status = Some (text v)
early_value Length v status = Some (decimal (length (text v)))
early_value Status v status = Some (decimal status)
early_value (Default colon) v status = unless_set (has colon v) v
early_value (Assign colon) v status = unless_set (has colon v) v
early_value (Error colon) v status = unless_set (has colon v) v
early_value (Alternative colon) v status = if_set (has colon v)
early_value (Cut cut) v status = None

abbrev pub told : Early → Option (List ℕ)
told (Text t) = Some t.now
told (Number n) = Some (decimal n)
told Argument = None

-- what is made of the argument
abbrev pub late_value : Form → Late
late_value Value = Keep
late_value Length = Keep
late_value Status = Keep
late_value (Default colon) = Keep
late_value (Assign colon) = late.Assign
late_value (Error colon) = Complain
late_value (Alternative colon) = Keep
late_value (Cut cut) = late.Cut cut
