use Rattle.std.proofs.Common.{Bool, true, false, List, Option, Some, ◌≡◌, ◌*◌, ℕ, length, replicate, refl, sym, ap, subst, ◌∙◌}
use Rattle.std.specs.Prelude.{◌&&◌, IfSome, unwrap_or}
use Rattle.std.proofs.lemmas.List.{length-replicate}
use Rattle.fd_tile.specs.declared.place.Place.{Place}
use Rattle.fd_tile.specs.Tile.{IsFlat, flat_over, rows_shown}
use Rattle.fd_tile.proofs.Cut.{shown_flat}
use Rattle.fd_tile.proofs.Rows.{IsFlat-replicate}
use Rattle.fd_tile.proofs.tile.Tile.deepen.Goals as goal

and_true : (m : Bool) → m && true ≡ true → m ≡ true
and_true true is = refl
and_true false is = is

and_false : (m : Bool) → m && false ≡ false
and_false true = refl
and_false false = refl

-- depths that are listed, where the tile is made, are the greatest, as all were
module _ (p : Place) (made deep : Bool) (old new : List ℕ) (flat : Option ℕ) (shallow : deep ≡ false) (greatest : flat ≡ Some 65535)
    (filled : made ≡ true → new ≡ replicate (p.height * p.width) 65535) where
  known : unwrap_or flat 65535 ≡ 65535
  known = ap (λ f. unwrap_or f 65535) greatest

  counted : made && true ≡ true → length new ≡ p.height * p.width
  counted is = ap length (filled (and_true made is)) ∙ length-replicate (p.height * p.width) 65535

  before : rows_shown (made && deep) p old flat 65535 ≡ flat_over p 65535
  before = ap (λ b. rows_shown b p old flat 65535) (ap (λ d. made && d) shallow ∙ and_false made) ∙ ap (flat_over p) known

  now : rows_shown (made && true) p new flat 65535 ≡ flat_over p 65535
  now =
      shown_flat p (made && true) new (unwrap_or flat 65535) (λ is. filled (and_true made is) ∙ ap (replicate (p.height * p.width)) (sym known))
      ∙ ap (flat_over p) known

  one : IfSome flat (λ d. IsFlat p (rows_shown (made && true) p new flat 65535) d)
  one = subst (λ f. IfSome f (λ d. IsFlat p (rows_shown (made && true) p new flat 65535) d)) (sym greatest) (IsFlat-replicate p 65535 _ now)

pub invariant_of-self : goal.invariant_of-self
invariant_of-self c =
    let t = c.self.inside in
    let i = c.self.invariant in
    let new = c.in_ok-self-inside.field-0.items in
    let shallow = c.if-self.false in
    let listed = rw c.get-place.ensures at c.in_ok-self-inside.ensures.listed in
    record {
      placed = i.placed;
      counted = i.counted;
      deep_counted = counted t.place t.made t.deep t.depths.items new t.flat_depth shallow (i.greatest shallow) listed;
      greatest = λ _. i.greatest shallow;
      one_colour = i.one_colour;
      one_depth = one t.place t.made t.deep t.depths.items new t.flat_depth shallow (i.greatest shallow) listed;
    }

pub returns-clause-deep : goal.returns-clause-deep
returns-clause-deep c =
    let t = c.self.inside in
    let shallow = c.if-self.false in
    let new = c.in_ok-self-inside.field-0.items in
    let listed = rw c.get-place.ensures at c.in_ok-self-inside.ensures.listed in
    rw (
      ← c.self.view_is,
      now t.place t.made t.deep t.depths.items new t.flat_depth shallow (c.self.invariant.greatest shallow) listed,
      before t.place t.made t.deep t.depths.items new t.flat_depth shallow (c.self.invariant.greatest shallow) listed,
    )
