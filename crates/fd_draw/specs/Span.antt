-- Working. The columns of a row that a test holds of, where they are neighbours.
use Rattle.std.specs.Prelude.{◌≡◌, ℕ, ◌<◌, ◌≤◌, Bool, false, ◌&&◌, nat_le, nat_lt, Option, Some, None, IfSome}

-- whether a span has column x: it goes from its first column to before its second
abbrev pub in_span : Option (ℕ × ℕ) → ℕ → Bool
in_span None x = false
in_span (Some span) x = nat_le span.0 x && nat_lt x span.1

-- the columns from x0 up to x1 that the test holds of are those of the span, which is missing where there are none
pub record IsRowSpan (test : ℕ → Bool) (x0 x1 : ℕ) (span : Option (ℕ × ℕ)) : Type 0 where
  pub bounds : IfSome span (λ s. (x0 ≤ s.0) × (s.0 < s.1) × (s.1 ≤ x1))
  pub same : (x : ℕ) → x0 ≤ x → x < x1 → test x ≡ in_span span x
