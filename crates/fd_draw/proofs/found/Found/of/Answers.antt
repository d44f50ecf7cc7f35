use Rattle.std.proofs.Common.{◌≡◌, ℕ, ◌+◌, ◌-◌, ◌<◌, ◌∙◌, length, set, ap, subst, arith, Some}
use Rattle.std.proofs.lemmas.List.{length-set}
use Rattle.fd_cover.specs.declared.triangle.Tri.{Tri}
use Rattle.fd_draw.specs.Span.{IsRowSpan}
use Rattle.fd_cover.specs.Covers.{covers}
use Rattle.fd_draw.specs.Area.{place_of_box}
use Rattle.fd_draw.specs.Demand.{written_in_row, row_spans}
use Rattle.fd_draw.proofs.Counts.{total_more, written_in_row-span, written_in_row-none, written_in_row-le, box_span}
use Rattle.fd_draw.proofs.FoundRows.{rows_more}
use Rattle.fd_draw.proofs.found.Found.of.Goals as goal
use Rattle.fd_draw.proofs.found.Found.of.Goals.{in-Some, in_default}

pub loop-y-preserved : goal.loop-y-preserved
loop-y-preserved c =
    let written = covers c.args.edges.0 in
    let p = place_of_box c.args.area in
    let y = c.loop-y.y in
    let spans = total_more (row_spans written p) y c.args.area.bottom c.loop-y-test.true in
    let pixels = total_more (written_in_row written p) y c.args.area.bottom c.loop-y-test.true in
    let given : IsRowSpan (λ x. covers c.args.edges.0 x y) c.args.area.left c.args.area.right c.covered_span-span.result =
    subst (λ (r : Tri × ℕ). IsRowSpan (λ x. covers r.0 x r.1) c.args.area.left c.args.area.right c.covered_span-span.result) c.loop-y.invariant.edges
    c.covered_span-span.ensures in
    let span = box_span written c.args.area y c.covered_span-span.result c.requires.small.columns given in
    let few = written_in_row-le written p y in
    let next : c.down.new.self ≡ (c.args.edges.0, y + 1) = c.down.ensures ∙ ap (λ (r : Tri × ℕ). (r.0, r.1 + 1)) c.loop-y.invariant.edges in
    let rows = rows_more c.args.edges.0 c.args.area c.loop-y.rows y c.of.result c.covered_span-span.result c.loop-y.auto.y
    (omega (arith, c.loop-y.invariant.size, c.requires.small.low, c.loop-y-test.true)) c.loop-y.invariant.rows c.of.ensures given in
    let size : length (set c.loop-y.rows (y - c.args.area.top) c.of.result) ≡ 32 = length-set c.loop-y.rows (y - c.args.area.top) c.of.result
    ∙ c.loop-y.invariant.size in
    elim c.match-span.branch [
      | in-Some w ↦
          let here : IsRowSpan (λ x. written x y) p.left (p.left + p.width) (Some (w.in-Some.left, w.in-Some.right)) = rw w.in-Some.is at span in
          let count = written_in_row-span written p y w.in-Some.left w.in-Some.right here in
          let some : 0 < w.in-Some.right - w.in-Some.left = omega (arith, here.bounds.1) in
          record {
            size = size;
            rows = rows;
            edges = next;
            spans = omega (arith, spans, count, some, c.loop-y.invariant.spans, ap (λ d. d.spans) w.demand-is);
            pixels = omega (arith, pixels, count, c.loop-y.invariant.pixels, ap (λ d. d.pixels) w.demand-is);
            few_spans = omega (arith, c.loop-y.invariant.few_spans, c.loop-y.auto.y, ap (λ d. d.spans) w.demand-is);
            few_pixels = omega (arith, few, count, c.requires.small.narrow, c.loop-y.invariant.few_pixels, c.loop-y.auto.y, ap (λ d. d.pixels) w.demand-is);
          }
      | in_default w ↦
          let none : written_in_row written p y ≡ 0 = written_in_row-none written p y (rw w.in_default.is at span) in
          record {
            size = size;
            rows = rows;
            edges = next;
            spans = omega (arith, spans, none, c.loop-y.invariant.spans, ap (λ d. d.spans) w.demand-is);
            pixels = omega (arith, pixels, none, c.loop-y.invariant.pixels, ap (λ d. d.pixels) w.demand-is);
            few_spans = omega (arith, c.loop-y.invariant.few_spans, c.loop-y.auto.y, ap (λ d. d.spans) w.demand-is);
            few_pixels = omega (arith, c.loop-y.invariant.few_pixels, c.loop-y.auto.y, ap (λ d. d.pixels) w.demand-is);
          }
    ]
