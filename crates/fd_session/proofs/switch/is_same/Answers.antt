use Rattle.std.proofs.Common.{◌≡◌, Bool, true, sym, ◌∙◌, rules}
use Rattle.std.specs.Prelude.{ℤ, ◌&&◌}
use Rattle.std.specs.Ordering.{int_eq}
use Rattle.std.proofs.lemmas.Bool.{and_parts, eqb-true}
use Rattle.std.proofs.lemmas.Bool.Decides.{Decides-int_eq}
use mathlib.Core.Bool.{beq}
use denote.Enum.Bare.{sameb, same_true}
use Rattle.fd_blend.specs.contracts.equation.Factor.{the_type as factors}
use Rattle.fd_blend.specs.contracts.equation.BlendOp.{the_type as operations}
use Rattle.fd_blend.specs.declared.equation.Part.{Part}
use Rattle.fd_cover.specs.contracts.depth.Func.{the_type as functions}
use Rattle.fd_cover.specs.contracts.verdict.Cull.{the_type as culls}
use Rattle.fd_session.proofs.switch.is_same.Goals as goal

-- one test after the other
both : {P Q : Type 0} {p q : Bool} → (p ≡ true → P) → (q ≡ true → Q) → (p && q) ≡ true → P × Q
both {p = p} {q = q} f g is = let all = and_parts p q is in (f all.0, g all.1)

flag : (a b : Bool) → beq a b ≡ true → a ≡ b
flag a b is = search rules

int : (a b : ℤ) → int_eq a b ≡ true → a ≡ b
int a b = (Decides-int_eq a b).0

part : (a b : Part) → (sameb factors a.src b.src && (sameb factors a.dst b.dst && sameb operations a.op b.op)) ≡ true → a ≡ b
part a b is =
    let factor = same_true factors (search rules) in
    let all = both (factor a.src b.src) (both (factor a.dst b.dst) (same_true operations (search rules) a.op b.op)) is in
    λ i. record { src = all.0 i; dst = all.1.0 i; op = all.1.1 i }

pub returns : goal.returns
returns c =
    let a = c.args.state.now in
    let b = c.args.other.now in
    let raster = both (same_true culls (search rules) a.raster.cull b.raster.cull)
    (both (flag a.raster.front_ccw b.raster.front_ccw) (flag a.raster.scissor b.raster.scissor)) in
    let rect = both (int a.scissor.left b.scissor.left)
    (both (int a.scissor.top b.scissor.top) (both (int a.scissor.right b.scissor.right) (int a.scissor.bottom b.scissor.bottom))) in
    let blend = both (flag a.blend.enable b.blend.enable)
    (both (part a.blend.rgb b.blend.rgb) (both (part a.blend.alpha b.blend.alpha) (eqb-true a.blend.mask.0 b.blend.mask.0))) in
    let colour = both (eqb-true a.factor.r b.factor.r)
    (both (eqb-true a.factor.g b.factor.g) (both (eqb-true a.factor.b b.factor.b) (eqb-true a.factor.a b.factor.a))) in
    let depth = both (flag a.depth.enable b.depth.enable)
    (both (flag a.depth.write b.depth.write) (same_true functions (search rules) a.depth.func b.depth.func)) in
    λ is.
    let all = both raster (both rect (both blend (both colour depth))) (sym c.eq.ensures ∙ is) in
    λ i. record {
      raster = record { cull = all.0.0 i; front_ccw = all.0.1.0 i; scissor = all.0.1.1 i };
      scissor = record { left = all.1.0.0 i; top = all.1.0.1.0 i; right = all.1.0.1.1.0 i; bottom = all.1.0.1.1.1 i };
      blend = record { enable = all.1.1.0.0 i; rgb = all.1.1.0.1.0 i; alpha = all.1.1.0.1.1.0 i; mask = record { 0 = all.1.1.0.1.1.1 i } };
      factor = record { r = all.1.1.1.0.0 i; g = all.1.1.1.0.1.0 i; b = all.1.1.1.0.1.1.0 i; a = all.1.1.1.0.1.1.1 i };
      depth = record { enable = all.1.1.1.1.0 i; write = all.1.1.1.1.1.0 i; func = all.1.1.1.1.1.1 i };
    }
