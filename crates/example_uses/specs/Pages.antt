-- How many lines a page has.
use Rattle.std.specs.Prelude.{◌≡◌, ℕ, ◌==◌, true, String, string_bytes, count_by, nat_eq}
use Rattle.std.specs.String.{string_eq}
use Rattle.std.proofs.Common.{ap, eq-eqb}
use Rattle.std.proofs.lemmas.Slice.Eq.{bytes_eq-Decides}

-- how many bytes end a line
abbrev pub line_count : {Z : Type 0} → String Z → ℕ
line_count page = count_by (λ b. b == 10) (string_bytes page)

-- equal pages have as many
pub same_lines : {Z : Type 0} (j k : String Z) → string_eq j k ≡ true → nat_eq (line_count j) (line_count k) ≡ true
same_lines j k same = eq-eqb (line_count j) (line_count k) (ap (count_by (λ b. b == 10)) ((bytes_eq-Decides (string_bytes j) (string_bytes k)).0 same))
