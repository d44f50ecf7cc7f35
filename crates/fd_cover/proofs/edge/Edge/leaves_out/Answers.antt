use Rattle.std.proofs.Common.{◌≡◌, ℕ, ◌^◌, ◌≤◌, ℤ, pos, ◌+ℤ◌, ◌-ℤ◌, ◌*ℤ◌, ◌≤ℤ◌, ◌<ℤ◌, IsTrue, unsigned_abs, FitsSigned, to_z, of_z, to_z-of_z}
use Rattle.std.proofs.Common.{w64, arith, mul-le-mul, ap, int_lt}
use Rattle.std.proofs.lemmas.Int.{ints, unsigned_abs-mul, fits_signed_from_abs}
use Rattle.fd_cover.proofs.edge.Edge.leaves_out.Goals as goal

pub small_product : (a : ℤ) (n : ℕ) → unsigned_abs a ≤ 2 ^ 31 → n ≤ 2 ^ 14 → unsigned_abs (a *ℤ pos n) ≤ 2 ^ 45
small_product a n h k = grind (arith, mul-le-mul, unsigned_abs-mul)

fits : (a : ℤ) → unsigned_abs a ≤ 2 ^ 51 → FitsSigned w64 a
fits a h = fits_signed_from_abs w64 a (omega arith)

-- what the code computes of the sum
told : (room down row : ℤ) → unsigned_abs room ≤ 2 ^ 50 → unsigned_abs down ≤ 2 ^ 31 → unsigned_abs row ≤ 2 ^ 14 → unsigned_abs (down *ℤ row) ≤ 2 ^ 45
    → to_z w64 (of_z w64 (to_z w64 (of_z w64 room) +ℤ to_z w64 (of_z w64 (to_z w64 (of_z w64 down) *ℤ to_z w64 (of_z w64 row))))) ≡ room +ℤ down *ℤ row
told room down row hr hd hn hp = grind (arith, fits, to_z-of_z)

sum_fits : (room down row : ℤ) → unsigned_abs room ≤ 2 ^ 50 → unsigned_abs down ≤ 2 ^ 31 → unsigned_abs row ≤ 2 ^ 14 → unsigned_abs (down *ℤ row) ≤ 2 ^ 45
    → FitsSigned w64 (to_z w64 (of_z w64 room) +ℤ to_z w64 (of_z w64 (to_z w64 (of_z w64 down) *ℤ to_z w64 (of_z w64 row))))
sum_fits room down row hr hd hn hp = grind (arith, fits, to_z-of_z)

-- the product with the row below, by its bound
row_product : (down row : ℤ) (n : ℕ) → row ≡ pos n → unsigned_abs down ≤ 2 ^ 31 → n ≤ 2 ^ 14 → unsigned_abs (down *ℤ row) ≤ 2 ^ 45
row_product down row n is h k = rw is (small_product down n h k)

-- what is below 0 at the one place is so at all
below_all : (room slack at_column at_x at_row at_n down : ℤ) → room ≡ slack -ℤ at_column → IsTrue (int_lt (room +ℤ down) (pos 0)) → at_column ≤ℤ at_x
    → at_n ≤ℤ at_row → down ≡ at_row
    → (slack +ℤ at_n) <ℤ at_x
below_all room slack at_column at_x at_row at_n down is below column row same = omega (arith, ints, is, below, column, row, same)

pub overflow_add-result : goal.overflow_add-result
overflow_add-result c =
    sum_fits c.room.result c.args.self.down c.from.result c.room.ensures.bound c.requires.down
    (omega (arith, ints, c.from.ensures, c.greatest_at-row.ensures.to, c.requires.rows))
    (row_product c.args.self.down c.from.result c.greatest_at-row.result c.from.ensures c.requires.down
    (omega (arith, c.greatest_at-row.ensures.to, c.requires.rows)))

pub returns : goal.returns
returns c = λ is x n from to low.
    let self = c.args.self in
    let small : unsigned_abs (self.down *ℤ c.from.result) ≤ 2 ^ 45 =
    row_product self.down c.from.result c.greatest_at-row.result c.from.ensures c.requires.down
    (omega (arith, c.greatest_at-row.ensures.to, c.requires.rows)) in
    let sum = told c.room.result self.down c.from.result c.room.ensures.bound c.requires.down
    (omega (arith, ints, c.from.ensures, c.greatest_at-row.ensures.to, c.requires.rows)) small in
    let below : IsTrue (int_lt (c.room.result +ℤ self.down *ℤ c.from.result) (pos 0)) = rw sum at is in
    let step_fits : FitsSigned w64 self.step = fits self.step (omega (arith, c.requires.step)) in
    let down_fits : FitsSigned w64 self.down = fits self.down (omega (arith, c.requires.down)) in
    let column = simp to_z-of_z at (c.least_at-column.ensures.least x from (omega arith)) in
    let row = simp to_z-of_z at (c.greatest_at-row.ensures.greatest n (omega arith) low) in
    below_all c.room.result self.slack (self.step *ℤ pos c.least_at-column.result) (self.step *ℤ pos x) (self.down *ℤ pos c.greatest_at-row.result)
    (self.down *ℤ pos n) (self.down *ℤ c.from.result)
    c.room.ensures.value below column row (ap (λ (z : ℤ). self.down *ℤ z) c.from.ensures)
