-- The parts of an image, each read from the left: what it gives and where it ends, or its first
-- fault with its place. A part in which the input ends is Short at the end of the input, before any
-- other fault of that part.
--     Here                     where reading stands; IsAt says that it stands so in the input
--     fixed_at b, text_at bs   one byte, several bytes that have to stand there
--     head_at                  the first line, and whether it is that of an image with links
--     mark_at links            what a line begins with
--     until_at p               the bytes up to the first that passes p
--     number_at which limit    a decimal number up to a limit
--     sort_at l mark           of a file or a link the number of its bytes
--     path_at                  the text of a path, and the newline behind it
use Rattle.std.specs.Prelude.{◌≡◌, ℕ, ◌+◌, ◌-◌, ◌*◌, ◌≤◌, Bool, true, false, not, ◌&&◌, List, [], ◌∷◌, length, take, drop, codes, Result, Ok, Err, nat_lt, ◌==◌, if◌then◌else◌}
use Rattle.std.specs.Char.{is_ascii_digit}
use Rattle.std.specs.List.{position_or_len}
use Rattle.em_base.specs.Numbers.{has_no_leading_zero}
use Rattle.em_path.specs.Paths.{is_path}
use Rattle.em_image.specs.declared.no.Which.{Which}
use Rattle.em_image.specs.declared.no.Which.TheVariants as which
use Rattle.em_image.specs.declared.no.ImageNo.{ImageNo}
use Rattle.em_image.specs.declared.no.ImageNo.TheVariants as no
use Rattle.em_image.specs.declared.cursor.Mark.{Mark}
use Rattle.em_image.specs.declared.cursor.Mark.TheVariants as mark
use Rattle.em_image.specs.declared.cursor.Cursor.{Cursor}
use Rattle.em_image.specs.declared.header.Sort.{Sort}
use Rattle.em_image.specs.declared.header.Sort.TheVariants as sort
use Rattle.em_image.specs.Image.{Limits}

infixl 10 ◌>>=◌
abbrev pub ◌>>=◌ : {A B : Type 0} → Result A ImageNo → (A → Result B ImageNo) → Result B ImageNo
(Ok x) >>= f = f x
(Err e) >>= f = Err e

-- What a call returned, seen by view, is what reading gives, unless memory ran out.
abbrev pub Fails : {Y : Type 0} → ImageNo → Result Y ImageNo → Type 0
Fails no.NoMemory read = Unit {0}
Fails e read = read ≡ Err e

abbrev pub Gives : {X Y : Type 0} → (X → Y) → Result X ImageNo → Result Y ImageNo → Type 0
Gives view (Ok x) read = read ≡ Ok (view x)
Gives view (Err e) read = Fails e read

-- a place, and the bytes from there on
pub record Here : Type 0 where
  pub at : ℕ
  pub rest : List ℕ

-- the bytes from there on are those of the input
pub record IsAt (input : List ℕ) (here : Here) : Type 0 where
  pub low : here.at ≤ length input
  pub rest : here.rest ≡ drop here.at input

-- where a cursor stands
abbrev pub seen : Cursor → Here
seen c = record { at = c.at; rest = c.rest.now }

-- the place at which the input ends
abbrev pub end_of : Here → ℕ
end_of here = here.at + length here.rest

abbrev pub skip : ℕ → Here → Here
skip n here = record { at = here.at + n; rest = drop n here.rest }

abbrev pub fixed_in : ℕ → ℕ → List ℕ → Result Here ImageNo
fixed_in b at [] = Err (no.Short at)
fixed_in b at (c ∷ cs) = if c == b then Ok (record { at = at + 1; rest = cs }) else Err (no.Form at)

abbrev pub fixed_at : ℕ → Here → Result Here ImageNo
fixed_at b here = fixed_in b here.at here.rest

-- these bytes, each a part of its own
unfoldable pub text_at : List ℕ → Here → Result Here ImageNo
text_at [] here = Ok here
text_at (b ∷ bs) here = do
  after ← fixed_at b here
  text_at bs after

-- `1`, or `2` where there are links
abbrev pub version_in : ℕ → List ℕ → Result (Bool × Here) ImageNo
version_in at [] = Err (no.Short at)
version_in at (c ∷ cs) =
    let after : Here = record { at = at + 1; rest = cs } in
    if c == 49 then Ok (false, after) else if c == 50 then Ok (true, after) else Err (no.Form at)

abbrev pub version_at : Here → Result (Bool × Here) ImageNo
version_at here = version_in here.at here.rest

unfoldable pub head_at : Here → Result (Bool × Here) ImageNo
head_at here = do
  word ← text_at (codes "EMTREE ") here
  links ← version_at word
  after ← fixed_at 10 links.1
  Ok (links.0, after)

-- what a line begins with: `d` or `f` of a node, also `l` where there are links, `.` of the end
abbrev pub mark_in : Bool → ℕ → List ℕ → Result (Mark × Here) ImageNo
mark_in links at [] = Err (no.Short at)
mark_in links at (c ∷ cs) =
    let after : Here = record { at = at + 1; rest = cs } in
    if c == 100 then Ok (mark.Dir, after) else if c == 102 then Ok (mark.File, after) else if links && c == 108 then Ok (mark.Link, after) else if c == 46 then Ok (mark.End, after) else Err (no.Form at)

abbrev pub mark_at : Bool → Here → Result (Mark × Here) ImageNo
mark_at links here = mark_in links here.at here.rest

-- the bytes up to the first that passes p, which isn't taken
abbrev pub until_at : (ℕ → Bool) → Here → Result (List ℕ × Here) ImageNo
until_at p here =
    let n = position_or_len p here.rest in
    if nat_lt n (length here.rest) then Ok (take n here.rest, skip n here) else Err (no.Short (end_of here))

-- ---- numbers

-- the number that n and the digits behind it spell
abbrev pub value_after : ℕ → List ℕ → ℕ
value_after n [] = n
value_after n (d ∷ ds) = value_after (10 * n + (d - 48)) ds

abbrev pub value : List ℕ → ℕ
value ds = value_after 0 ds

unfoldable pub number_at : Which → ℕ → Here → Result (ℕ × Here) ImageNo
number_at w limit here = do
  ds ← until_at (λ b. not (is_ascii_digit b)) here
  if not (has_no_leading_zero ds.0) then Err (no.Number here.at) else if nat_lt limit (value ds.0) then Err (no.Limit w here.at) else Ok (value ds.0, ds.1)

-- the most bytes that the text of a link has
abbrev pub longest_link : ℕ
longest_link = 1024

-- a stamp between blanks
unfoldable pub stamp_at : Limits → Here → Result (ℕ × Here) ImageNo
stamp_at l here = do
  a ← fixed_at 32 here
  n ← number_at which.Stamp l.stamp a
  b ← fixed_at 32 n.1
  Ok (n.0, b)

-- of a file or a link the number of its bytes and a blank, of a directory nothing
unfoldable pub sort_at : Limits → Mark → Here → Result (Sort × Here) ImageNo
sort_at l mark.Dir here = Ok (sort.Dir, here)
sort_at l mark.End here = Ok (sort.Dir, here)
sort_at l mark.File here = do
  n ← number_at which.File l.file here
  b ← fixed_at 32 n.1
  Ok (sort.File n.0, b)
sort_at l mark.Link here = do
  n ← number_at which.Link longest_link here
  if n.0 == 0 then Err (no.Limit which.Link here.at) else fixed_at 32 n.1 >>= λ b. Ok (sort.Link n.0, b)

-- how many bytes a file or a link may have
abbrev pub IsSized : Limits → Sort → Type 0
IsSized l sort.Dir = Unit {0}
IsSized l (sort.File n) = n ≤ l.file
IsSized l (sort.Link n) = (1 ≤ n) × (n ≤ longest_link)

-- ---- paths

unfoldable pub path_at : Here → Result (List ℕ × Here) ImageNo
path_at here = do
  text ← until_at (λ b. b == 10) here
  if is_path text.0 then Ok (text.0, skip 1 text.1) else Err (no.Path here.at)
