-- The covered pixels of a row by the three edges of the clockwise triangle.
use Rattle.std.proofs.Common.{◌≡◌, ℕ, zero, suc, ◌+◌, ◌*◌, ◌<◌, ◌≤◌, pos, ◌+ℤ◌, ◌-ℤ◌, ◌*ℤ◌, ◌≤ℤ◌, ◌<ℤ◌, ◌⊎◌, inl, inr, ◌↔◌, Bool, true, false, ◌&&◌}
use Rattle.std.proofs.Common.{◌||◌, ℤ, IsTrue, refl, sym, ap, subst, ◌∙◌, arith}
use Rattle.std.proofs.lemmas.Int.{ints}
use Rattle.std.proofs.lemmas.Bool.{cases_lt, false_from_ne_true}
use Rattle.std.specs.Prelude.{int_lt}
use Rattle.fd_snap.specs.Point.{Point}
use Rattle.fd_cover.specs.declared.triangle.Tri.{Tri}
use Rattle.fd_cover.specs.declared.edge.Edge.{Edge}
use Rattle.fd_cover.specs.Cross.{cross, centre}
use Rattle.fd_cover.specs.Covers.{covers, admits, is_top, is_left}
use Rattle.fd_cover.specs.Scanlines.{clockwise, margin, IsEdge, AreEdges}
use Rattle.fd_cover.specs.Span.{IsSpan, IsUncovered}
use Rattle.fd_cover.proofs.Differences.{natural, sum_of, difference_of, product_of, equal_from}
use Rattle.fd_cover.proofs.CrossLemmas.{cross-swap, cross-turn, cross-sum, minus}
use Rattle.fd_cover.proofs.CoverLemmas.{IsPositive, IsNegative, is_negative, negative_from, is_inclusive, IsCovered, covered_from, covered_to}
use Rattle.fd_cover.proofs.EdgeLemmas.{IsCovered-turn, IsCovered-swap}
use Rattle.fd_cover.proofs.HalfLineLemmas.{margin_of, margin_is, columns_above, along, above_cut}
use borrow.Author.Differences.{up, down}

abbrev pub IsClockwise : Point → Point → Point → Type 0
IsClockwise a b c = down (cross a b c) ≤ up (cross a b c)

-- ---- the margin of an edge

second_of : (a b : Bool) → ((a && false) || (b && true)) ≡ b
second_of true true = refl
second_of true false = refl
second_of false true = refl
second_of false false = refl

left_is : (u v c : Point) → IsPositive (cross u v c) → is_left u v c ≡ int_lt v.y u.y
unfolding is_left
left_is u v c side =
    let here : int_lt (cross u v c) (pos 0) ≡ false = false_from_ne_true (int_lt (cross u v c) (pos 0)) (λ h. omega (arith, negative_from (cross u v c) h)) in
    let there : int_lt (cross v u c) (pos 0) ≡ true = is_negative (cross v u c) (omega (arith, ints, cross-swap u v c)) in
    rw (here, there) (second_of (int_lt u.y v.y) (int_lt v.y u.y))

margin_inclusive : (u v c : Point) → IsPositive (cross u v c) → margin u v c ≡ margin_of (is_inclusive u v c)
margin_inclusive u v c side = rw (left_is u v c side) refl

-- the columns that an edge admits, where the triangle has an area
pub edge_columns : (u v c : Point) (y : ℕ) (e : Edge) → IsEdge u v c y e → IsPositive (cross u v c) → (x : ℕ) → IsTrue (admits u v c (centre x y))
    ↔ ((e.step *ℤ pos x) ≤ℤ e.slack)
edge_columns u v c y e at side x = grind (arith, margin_inclusive, columns_above)

-- ---- a triangle without an area leaves no column

-- an edge with a margin of 0 is level and above the opposite vertex, or goes up
IsLeaning : Point → Point → Point → Type 0
IsLeaning u v c = ((u.y ≡ v.y) × (v.y <ℤ c.y)) ⊎ (v.y <ℤ u.y)

leaning_from : (u v c : Point) → (is_top u v c || int_lt v.y u.y) ≡ true → IsLeaning u v c
unfolding is_top IsLeaning
leaning_from u v c h = grind arith

leaning : (u v c : Point) → up (margin u v c) ≡ 0 → IsLeaning u v c
leaning u v c none = from (is_top u v c || int_lt v.y u.y) refl
  where
    from : (b : Bool) → (is_top u v c || int_lt v.y u.y) ≡ b → IsLeaning u v c
    from true e = leaning_from u v c e
    from false e = let one : margin u v c ≡ pos 1 = rw e refl in absurd (omega (arith, ints, one))

never_all : (a b c : Point) → IsLeaning a b c → IsLeaning b c a → IsLeaning c a b → ⊥
unfolding IsLeaning
never_all a b c first second third = omega (arith, ints, first, second, third)

-- the side at a column that the edge leaves
side_left : (u v c : Point) (y : ℕ) (e : Edge) → IsEdge u v c y e → (x : ℕ) → (e.step *ℤ pos x) ≤ℤ e.slack → up (margin u v c) + down (cross u v (centre x y))
    ≤ up (cross u v (centre x y))
side_left u v c y e at x h =
    let line = above_cut (cross u v (centre 0 y)) (cross u v (centre x y)) ((pos 256 *ℤ (v.y -ℤ u.y)) *ℤ pos x) (margin u v c) (along u v x y)
    (margin_is (is_top u v c || int_lt v.y u.y)).1 in
    line.1 (rw (at.step, at.slack) at h)

module _ (a b c : Point) (y : ℕ) (first second third : Edge) (ab : IsEdge a b c y first) (bc : IsEdge b c a y second) (ca : IsEdge c a b y third) (x : ℕ) where
  flat_leaves_none : cross a b c ≡ pos 0 → (first.step *ℤ pos x) ≤ℤ first.slack → (second.step *ℤ pos x) ≤ℤ second.slack
      → (third.step *ℤ pos x) ≤ℤ third.slack → ⊥
  flat_leaves_none flat h1 h2 h3 =
      let s1 = side_left a b c y first ab x h1 in
      let s2 = side_left b c a y second bc x h2 in
      let s3 = side_left c a b y third ca x h3 in
      let sum = cross-sum a b c (centre x y) ∙ flat in
      never_all a b c (leaning a b c (omega (arith, ints, s1, s2, s3, sum))) (leaning b c a (omega (arith, ints, s1, s2, s3, sum)))
      (leaning c a b (omega (arith, ints, s1, s2, s3, sum)))

  pub covered_by_edges : IsClockwise a b c → IsCovered a b c (centre x y)
      ↔ (((first.step *ℤ pos x) ≤ℤ first.slack) × (((second.step *ℤ pos x) ≤ℤ second.slack) × ((third.step *ℤ pos x) ≤ℤ third.slack)))
  covered_by_edges way = elim (cases_lt (down (cross a b c)) (up (cross a b c))) [
    | inl above ↦
        let one = edge_columns a b c y first ab above x in
        let two = edge_columns b c a y second bc (omega (arith, ints, cross-turn a b c)) x in
        let three = edge_columns c a b y third ca (omega (arith, ints, cross-turn a b c, cross-turn b c a)) x in (
          λ h. (one.0 h.first, (two.0 h.second, three.0 h.third)),
          λ h. record {
            area = λ e. omega (arith, ints, e);
            first = one.1 h.0;
            second =
                two.1 h.1.0;
            third = three.1 h.1.1;
          },
        )
    | inr level ↦
        let flat : cross a b c ≡ pos 0 = omega (arith, ints) in
        (λ h. absurd (h.area flat), λ h. absurd (flat_leaves_none flat h.0 h.1.0 h.1.1))
  ]

-- ---- the clockwise triangle covers the same pixels

clockwise_cases : (t : Tri) → (IsNegative (cross t.a t.b t.c) × (clockwise t ≡ record { a = t.a; b = t.c; c = t.b }))
    ⊎ (IsClockwise t.a t.b t.c × (clockwise t ≡ t))
unfolding clockwise
clockwise_cases t = grind arith

-- a triangle covers what its edges leave
pub covered_in_row : (t : Tri) (y : ℕ) (first second third : Edge) → AreEdges (clockwise t) y first second third → (x : ℕ)
    → IsTrue (covers t x y) ↔ (((first.step *ℤ pos x) ≤ℤ first.slack) × (((second.step *ℤ pos x) ≤ℤ second.slack) × ((third.step *ℤ pos x) ≤ℤ third.slack)))
covered_in_row t y first second third edges x = elim (clockwise_cases t) [
  | inl turned ↦
      let at : AreEdges (record { a = t.a; b = t.c; c = t.b }) y first second third = rw turned.1 at edges in
      let way : IsClockwise t.a t.c t.b = omega (arith, ints, turned.0, cross-swap t.a t.b t.c, cross-turn t.b t.a t.c) in
      let by = covered_by_edges t.a t.c t.b y first second third at.ab at.bc at.ca x way in (
        λ h. by.0 (IsCovered-turn t.b t.a t.c (centre x y) (IsCovered-swap t.a t.b t.c (centre x y) (covered_from t x y h))),
        λ h. covered_to t x y
            (IsCovered-turn t.c t.a t.b (centre x y) (IsCovered-swap t.a t.c t.b (centre x y) (by.1 h))),
      )
  | inr same ↦
      let at : AreEdges t y first second third = rw same.1 at edges in
      let by = covered_by_edges t.a t.b t.c y first second third at.ab at.bc at.ca x same.0 in
      (λ h. by.0 (covered_from t x y h), λ h. covered_to t x y (by.1 h))
]

-- ---- the columns between which each edge in turn leaves the rest

module _ (t : Tri) (y x0 x1 l1 r1 l2 r2 l3 r3 : ℕ) (P1 P2 P3 : ℕ → Type 0) (cover : (x : ℕ) → IsTrue (covers t x y) ↔ (P1 x × (P2 x × P3 x)))
    (part1 : (x : ℕ) → x0 ≤ x → x < x1 → P1 x ↔ ((l1 ≤ x) × (x < r1))) (part2 : (x : ℕ) → l1 ≤ x → x < r1 → P2 x ↔ ((l2 ≤ x) × (x < r2)))
    (part3 : (x : ℕ) → l2 ≤ x → x < r2 → P3 x ↔ ((l3 ≤ x) × (x < r3)))
    (order : ((x0 ≤ l1) × (r1 ≤ x1)) × (((l1 ≤ l2) × (r2 ≤ r1)) × ((l2 ≤ l3) × (r3 ≤ r2)))) where
  to_span : (x : ℕ) → x0 ≤ x → x < x1 → IsTrue (covers t x y) → (l3 ≤ x) × (x < r3)
  to_span x low high h = grind arith

  pub span_of_edges : l3 < r3 → IsSpan t y x0 x1 l3 r3
  span_of_edges some = grind arith

  pub none_of_edges : r3 ≤ l3 → IsUncovered t y x0 x1
  none_of_edges none x low high = false_from_ne_true (covers t x y) (λ h. let inside = to_span x low high h in omega (arith, inside))

-- ---- the next row

side_below : (u v : Point) (y : ℕ) → cross u v (centre 0 (y + 1)) ≡ cross u v (centre 0 y) +ℤ pos 256 *ℤ (v.x -ℤ u.x)
unfolding cross
side_below u v y =
    equal_from
    (difference_of (product_of (minus v.x u.x) (minus (pos (256 * (y + 1) + 128)) u.y)) (product_of (minus v.y u.y) (minus (pos 128) u.x)))
    (sum_of (difference_of (product_of (minus v.x u.x) (minus (pos (256 * y + 128)) u.y)) (product_of (minus v.y u.y) (minus (pos 128) u.x)))
    (product_of (natural 256) (minus v.x u.x)))
    (omega arith)

pub edge_below : (u v c : Point) (y : ℕ) (e f : Edge) → f ≡ record { step = e.step; slack = e.slack +ℤ e.down; down = e.down } → IsEdge u v c y e
    → IsEdge u v c (y + 1) f
edge_below u v c y e f next at = rw next (record {
  step = at.step;
  slack = omega (arith, ints, at.slack, at.down, side_below u v y);
  down = at.down;
  small_step = at.small_step;
  small_down = at.small_down;
  small_slack = omega (arith, ints, at.small_slack, at.small_down);
})

-- ---- many rows below

-- the edge so many rows below
abbrev pub lowered : Edge → ℕ → Edge
lowered e n = record { step = e.step; slack = e.slack +ℤ e.down *ℤ pos n; down = e.down }

edge_lowered : (u v c : Point) (y : ℕ) (e : Edge) → IsEdge u v c y e → (n : ℕ) → IsEdge u v c (y + n) (lowered e n)
edge_lowered u v c y e at zero =
    let same : (lowered e zero).slack ≡ e.slack = omega (arith, ints) in
    subst (λ (m : ℕ). IsEdge u v c m (lowered e zero)) {x = y} {y = y + zero} (omega arith)
    (subst (λ (s : ℤ). IsEdge u v c y (record { step = e.step; slack = s; down = e.down })) (sym same) at)
edge_lowered u v c y e at (suc n) =
    let next : (lowered e n).slack +ℤ e.down ≡ (lowered e (suc n)).slack = omega (arith, ints) in
    subst (λ (m : ℕ). IsEdge u v c m (lowered e (suc n))) {x = y + n + 1} {y = y + suc n} (omega arith)
    (edge_below u v c (y + n) (lowered e n) (lowered e (suc n)) (ap (λ (s : ℤ). record { step = e.step; slack = s; down = e.down }) (sym next))
    (edge_lowered u v c y e at n))

-- a triangle covers no pixel that one of its edges leaves out
module _ (t : Tri) (y : ℕ) (first second third : Edge) (edges : AreEdges (clockwise t) y first second third) (n x : ℕ) where
  abbrev Leaves : Edge → Type 0
  Leaves e = (e.slack +ℤ e.down *ℤ pos n) <ℤ (e.step *ℤ pos x)

  pub uncovered_by_edge : Leaves first ⊎ (Leaves second ⊎ Leaves third) → covers t x (y + n) ≡ false
  uncovered_by_edge leaves =
      let s : Tri = clockwise t in
      let there : AreEdges (clockwise t) (y + n) (lowered first n) (lowered second n) (lowered third n) = record {
        ab = edge_lowered s.a s.b s.c y first edges.ab n;
        bc = edge_lowered s.b s.c s.a y second edges.bc n;
        ca = edge_lowered s.c s.a s.b y third edges.ca n;
      } in
      false_from_ne_true (covers t x (y + n)) (λ covered.
      let within = (covered_in_row t (y + n) (lowered first n) (lowered second n) (lowered third n) there x).0 covered in
      elim leaves [
        | inl a ↦ omega (arith, ints, a, within.0)
        | inr more ↦ elim more [ inl b ↦ omega (arith, ints, b, within.1.0) | inr d ↦ omega (arith, ints, d, within.1.1) ]
      ])
