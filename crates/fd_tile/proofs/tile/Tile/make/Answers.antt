use Rattle.std.proofs.Common.{Bool, true, List, Option, Some, None, ◌≡◌, ◌*◌, length, replicate, ap, ◌∙◌}
use Rattle.std.specs.Prelude.{IfSome, unwrap_or}
use Rattle.std.proofs.lemmas.List.{length-replicate}
use Rattle.fd_blend.specs.Channel.{fresh}
use Rattle.fd_tile.specs.declared.place.Place.{Place}
use Rattle.fd_tile.specs.Tile.{IsFlat, flat_over, rows_shown}
use Rattle.fd_tile.proofs.Cut.{shown_flat}
use Rattle.fd_tile.proofs.Rows.{IsFlat-replicate}
use Rattle.fd_tile.proofs.tile.Tile.make.Goals as goal

-- the value of all, where one is known
known : {X : Type 0} (p : Place) (rows : List (List X)) (flat : Option X) (other : X) → IsFlat p rows (unwrap_or flat other)
    → IfSome flat (λ value. IsFlat p rows value)
known p rows (Some value) other all = all
known p rows None other all = tt

-- what is listed, or one value everywhere
module _ {X : Type 0} (p : Place) (listed : Bool) (items : List X) (flat : Option X) (other value : X) (is : value ≡ unwrap_or flat other)
    (filled : listed ≡ true → items ≡ replicate (p.height * p.width) value) where
  counted : listed ≡ true → length items ≡ p.height * p.width
  counted all = ap length (filled all) ∙ length-replicate (p.height * p.width) value

  rows_are : rows_shown listed p items flat other ≡ flat_over p (unwrap_or flat other)
  rows_are = shown_flat p listed items (unwrap_or flat other) (λ all. filled all ∙ ap (replicate (p.height * p.width)) is)

  one : IfSome flat (λ v. IsFlat p (rows_shown listed p items flat other) v)
  one = known p (rows_shown listed p items flat other) flat other (IsFlat-replicate p (unwrap_or flat other) (rows_shown listed p items flat other) rows_are)

pub invariant_of-self : goal.invariant_of-self
invariant_of-self c =
    let t = c.self.inside in
    let p = t.place in
    let colours = λ (_ : true ≡ true). (rw c.get-place.ensures at c.in_ok-colours.ensures.items_if_clones_equal (λ y same. same)) in
    let depths = rw c.get-place.ensures at c.in_ok-depths.ensures.listed in
    record {
      placed = c.self.invariant.placed;
      counted = counted p true _ t.flat_colour fresh _ c.unwrap_or-colour.ensures colours;
      deep_counted = counted p t.deep _ t.flat_depth 65535 _ c.unwrap_or-depth.ensures depths;
      greatest = c.self.invariant.greatest;
      one_colour = one p true _ t.flat_colour fresh _ c.unwrap_or-colour.ensures colours;
      one_depth = one p t.deep _ t.flat_depth 65535 _ c.unwrap_or-depth.ensures depths;
    }

pub returns : goal.returns
returns c =
    let t = c.self.inside in
    let p = t.place in
    let colours = λ (_ : true ≡ true). (rw c.get-place.ensures at c.in_ok-colours.ensures.items_if_clones_equal (λ y same. same)) in
    let depths = rw c.get-place.ensures at c.in_ok-depths.ensures.listed in
    record {
      made = rw (
        ← c.self.view_is,
        c.if-self.false,
        rows_are p true _ t.flat_colour fresh _ c.unwrap_or-colour.ensures colours,
        rows_are p t.deep _ t.flat_depth 65535 _ c.unwrap_or-depth.ensures depths,
      );
      same = tt;
      wanted = tt;
    }
