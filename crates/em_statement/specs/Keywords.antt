-- The words that begin a conditional or a directive.
use Rattle.std.specs.Prelude.{ℕ, List, Option, Some, None, codes, if◌then◌else◌}
use Rattle.std.specs.Str.{bytes_eq}
use Rattle.em_statement.specs.declared.keyword.Keyword.{Keyword}
use Rattle.em_statement.specs.declared.keyword.Keyword.TheVariants.{Ifeq, Ifneq, Ifdef, Ifndef, Else, Endif, Define, Endef, Undefine, Override, Export, Unexport, Include, TryInclude, Refused}

abbrev pub keyword_of : List ℕ → Option Keyword
keyword_of word =
    if bytes_eq word (codes "ifeq") then Some Ifeq
    else if bytes_eq word (codes "ifneq") then Some Ifneq
    else if bytes_eq word (codes "ifdef") then Some Ifdef
    else if bytes_eq word (codes "ifndef") then Some Ifndef
    else if bytes_eq word (codes "else") then Some Else
    else if bytes_eq word (codes "endif") then Some Endif
    else if bytes_eq word (codes "define") then Some Define
    else if bytes_eq word (codes "endef") then Some Endef
    else if bytes_eq word (codes "undefine") then Some Undefine
    else if bytes_eq word (codes "override") then Some Override
    else if bytes_eq word (codes "export") then Some Export
    else if bytes_eq word (codes "unexport") then Some Unexport
    else if bytes_eq word (codes "include") then Some Include
    else if bytes_eq word (codes "-include") then Some TryInclude
    else if bytes_eq word (codes "sinclude") then Some TryInclude
    else if bytes_eq word (codes "vpath") then Some Refused
    else if bytes_eq word (codes "private") then Some Refused
    else if bytes_eq word (codes "load") then Some Refused
    else None
