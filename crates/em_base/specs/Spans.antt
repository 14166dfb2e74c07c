-- What a span is of a text.
use Rattle.std.specs.Prelude.{ℕ, ◌-◌, List, take, drop}
use Rattle.em_base.specs.declared.place.Span.{Span}

-- the bytes from the span's start up to, not including, its end
abbrev pub cut : List ℕ → Span → List ℕ
cut text s = take (s.end - s.start) (drop s.start text)
