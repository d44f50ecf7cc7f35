use Rattle.std.proofs.Common.{◌≡◌, ◌+◌, ◌∙◌, cond, inl, inr, length, min, sym, ap, arith}
use Rattle.fd_events.specs.Draw.{triangles_of}
use Rattle.fd_draw.specs.Demand.{is_tested, triangle_pixels, triangle_spans}
use Rattle.fd_draw.specs.Plan.{AreUnreached}
use Rattle.fd_draw.specs.Triangles.{triangle_at}
use Rattle.fd_draw.proofs.Triangles.{no_pixels, no_spans, picture_at_number, pixels-passed, pixels_found, planned_more, planned_passed}
use Rattle.fd_draw.proofs.Triangles.{spans-passed, spans_few, spans_found, sum_more, unreached_closed, unreached_culled, unreached_missed, unreached_uncovered}
use Rattle.fd_draw.proofs.plan.Plan.add_draw.Goals as goal

-- the scissor leaves nothing, or every triangle is culled
idle : (c : goal.Then-is_idle) → AreUnreached (triangles_of c.args.draw.now) c.args.state.now c.args.place 0 (length (triangles_of c.args.draw.now))
idle c = elim (c.is_idle.ensures c.if-is_idle.true) [
  | inl empty ↦ unreached_closed c.args.draw.now c.args.state.now c.args.place c.window_of-window.result c.window_of-window.ensures.window empty
  | inr culled ↦ unreached_culled _ c.args.state.now c.args.place culled
]

pub returns-then-is_idle-clause-spans : goal.returns-then-is_idle-clause-spans
returns-then-is_idle-clause-spans c = c.requires.no_spans
    ∙ sym (no_spans (triangles_of c.args.draw.now) c.args.state.now c.args.place 0 (omega arith) (idle c))

pub returns-then-is_idle-clause-pixels : goal.returns-then-is_idle-clause-pixels
returns-then-is_idle-clause-pixels c = c.requires.no_pixels
    ∙ sym (no_pixels (triangles_of c.args.draw.now) c.args.state.now c.args.place 0 (omega arith) (idle c))

pub returns-then-is_idle-clause-planned : goal.returns-then-is_idle-clause-planned
returns-then-is_idle-clause-planned c = rw (c.requires.none, c.triangles-self.ensures.value) (omega arith, omega arith, idle c)

pub loop-next-init : goal.loop-next-init
loop-next-init c =
    let ts = triangles_of c.args.draw.now in
    let s = c.args.state.now in
    let p = c.args.place in
    let first = c.args.first in
    let none = unreached_uncovered ts s p first c.requires.missed in
    let start : min c.triangles-self.result first ≡ first = omega (arith, c.triangles-self.ensures.value, c.requires.within) in
    record {
      spans = omega (arith, c.requires.no_spans, spans-passed ts s p 0 first (omega arith) none);
      pixels = omega (arith, c.requires.no_pixels, pixels-passed ts s p 0 first (omega arith) none);
      within = c.requires.within;
      few_spans = omega (arith, c.requires.no_spans);
      few_pixels = omega (arith, c.requires.no_pixels);
      kept = record {
        planned = rw (start, c.requires.none) (omega arith, c.requires.within, none);
        last = omega (arith, c.triangles-self.ensures.value);
        room = λ _. omega (arith, c.triangles-self.ensures.value);
        few = omega (arith, ap length c.requires.none);
      };
    }

pub loop-next-preserved : goal.loop-next-preserved
loop-next-preserved c =
    let d = c.args.draw.now in
    let ts = triangles_of d in
    let s = c.args.state.now in
    let p = c.args.place in
    let inv = c.loop-next.invariant in
    let window = c.window_of-window.ensures in
    let next = c.in-Some.ensures.found p window.inside window.window in
    let f = c.in-Some.next.found in
    let i = c.in-Some.next.triangle in
    let past_spans = spans-passed ts s p c.loop-next.from i next.from next.passed in
    let past_pixels = pixels-passed ts s p c.loop-next.from i next.from next.passed in
    let its_spans = spans_found (triangle_at d i) s p f next.found
    ∙ ap (λ b. cond b f.demand.pixels f.demand.spans) (ap (is_tested s) (picture_at_number d i next.below) ∙ sym c.is_tested-tested.ensures.tested) in
    let its_pixels = pixels_found (triangle_at d i) s p f next.found in
    let few_spans = spans_few (triangle_at d i) s p f next.found in
    let add = c.add.ensures in
    let more = planned_more (planned_passed inv.kept i next.from (omega (arith, next.below)) next.passed) _ next.below next.found add.room add.full in
    let near = c.next_listed-from in
    let behind = unreached_missed d s p c.window_of-window.result (i + 1) near.result window.window near.ensures.missed in
    let behind_spans = spans-passed ts s p (i + 1) near.result near.ensures.from behind in
    let behind_pixels = pixels-passed ts s p (i + 1) near.result near.ensures.from behind in
    record {
      spans = omega (arith, past_spans, sum_more (triangle_spans s p) ts i next.below, its_spans, behind_spans, add.spans, inv.spans);
      pixels = omega (arith, past_pixels, sum_more (triangle_pixels s p) ts i next.below, its_pixels, behind_pixels, add.pixels, inv.pixels);
      within = near.ensures.last;
      few_spans = omega (arith, next.from, near.ensures.from, its_spans, few_spans, add.spans, inv.few_spans);
      few_pixels = omega (arith, next.from, near.ensures.from, next.found.found.few_pixels, add.pixels, inv.few_pixels);
      kept = planned_passed more near.result near.ensures.from near.ensures.last behind;
    }

pub returns-clause-spans : goal.returns-clause-spans
returns-clause-spans c =
    let inv = c.loop-next.invariant in
    let none = c.in_default.ensures.none c.args.place c.window_of-window.ensures.inside c.window_of-window.ensures.window in
    omega (arith, inv.spans, no_spans (triangles_of c.args.draw.now) c.args.state.now c.args.place c.loop-next.from inv.within none)

pub returns-clause-pixels : goal.returns-clause-pixels
returns-clause-pixels c =
    let inv = c.loop-next.invariant in
    let none = c.in_default.ensures.none c.args.place c.window_of-window.ensures.inside c.window_of-window.ensures.window in
    omega (arith, inv.pixels, no_pixels (triangles_of c.args.draw.now) c.args.state.now c.args.place c.loop-next.from inv.within none)

pub returns-clause-planned : goal.returns-clause-planned
returns-clause-planned c =
    let inv = c.loop-next.invariant in
    let count = length (triangles_of c.args.draw.now) in
    let none = c.in_default.ensures.none c.args.place c.window_of-window.ensures.inside c.window_of-window.ensures.window in
    let kept = planned_passed inv.kept count inv.within (omega arith) none in
    let all : min c.loop-next.self.rest count ≡ c.loop-next.self.rest = omega (arith, kept.last) in
    rw all at kept.planned
