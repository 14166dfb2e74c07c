-- Comments of a makefile's line: a `#` outside references begins one, and `\#` is `#`.
--     comment_start bytes    how many bytes of plain text stand before its comment, or all
--     unescaped bytes        plain text in which each `\#` is `#`
--     bare text              a line without its comment
use Rattle.std.specs.Prelude.{ℕ, suc, ◌==◌, ◌&&◌, nat_lt, Bool, false, not, List, [], ◌∷◌, ◌++◌, length, take, if◌then◌else◌}
use Rattle.em_base.specs.Spans.{cut}
use Rattle.em_refs.specs.declared.part.Part.{Part}
use Rattle.em_refs.specs.declared.part.Part.TheVariants.{Literal, Dollar, Ref}
use Rattle.em_refs.specs.Parts.{parted, source, left}

-- a `#` without a backslash right before it begins the comment
abbrev pub comment_behind : Bool → List ℕ → ℕ
comment_behind backslash [] = 0
comment_behind backslash (b ∷ bs) = if (b == 35) && not backslash then 0 else suc (comment_behind (b == 92) bs)

abbrev pub comment_start : List ℕ → ℕ
comment_start bytes = comment_behind false bytes

abbrev pub begins_with_hash : List ℕ → Bool
begins_with_hash [] = false
begins_with_hash (b ∷ bs) = b == 35

-- a backslash right before a `#` is dropped
abbrev pub unescaped : List ℕ → List ℕ
unescaped [] = []
unescaped (b ∷ bs) = if (b == 92) && begins_with_hash bs then unescaped bs else b ∷ unescaped bs

-- plain text and what comes behind it, which is of the comment where that begins in the text
abbrev pub plain_then : List ℕ → List ℕ → List ℕ
plain_then bytes behind =
    if nat_lt (comment_start bytes) (length bytes) then unescaped (take (comment_start bytes) bytes)
    else unescaped bytes ++ behind

-- references stand as they were written, also one that isn't closed, with all behind it
abbrev pub bare_parts : List ℕ → List Part → List ℕ → List ℕ
bare_parts text [] unclosed = unclosed
bare_parts text (Literal s ∷ ps) unclosed = plain_then (cut text s) (bare_parts text ps unclosed)
bare_parts text (Dollar ∷ ps) unclosed = source text Dollar ++ bare_parts text ps unclosed
bare_parts text (Ref s ∷ ps) unclosed = source text (Ref s) ++ bare_parts text ps unclosed

unfoldable pub bare : List ℕ → List ℕ
bare text = bare_parts text (parted text).parts (left text (parted text).unclosed)
