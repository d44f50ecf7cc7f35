use Rattle.std.proofs.Common.{arith, ◌≡◌, ◌+◌, inl, inr, sym, ap, ◌∙◌}
use Rattle.fd_owner.specs.History.{position}
use Rattle.fd_owner.specs.Shown.{Shown}
use Rattle.fd_crew.specs.declared.fence.View.{View}
use Rattle.fd_crew.proofs.Passing.{passed_near, passed_step}
use Rattle.fd_crew.proofs.Laning.{Ran, ran_more, ran_on, drawn_quiet, drawn_refused, position_more, at_ok, at_err}
use Rattle.fd_crew.proofs.Wants.{on_err}
use Rattle.fd_crew.proofs.crew.draw_lane.Goals as goal

pub loop-number-smaller : goal.loop-number-smaller
loop-number-smaller g c =
    let is = at_ok _ _ _ c.forward.ensures.moved (sym c.is_err.ensures.value ∙ c.if-is_err.false) in
    omega (arith, position_more _ _ _ is.1)

pub loop-number-preserved : goal.loop-number-preserved
loop-number-preserved g c =
    let opened = g.G.Gate.opened c.args.course.now.gate.now c.args.number in
    let old = g.L.Lane.shown c.args.lane.now in
    let near = g.L.Lane.shown c.pass_to.new.self in
    let cleared = g.L.Lane.shown c.clear_to.new.self in
    let is = at_ok _ _ _ c.forward.ensures.moved (sym c.is_err.ensures.value ∙ c.if-is_err.false) in
    let more = position_more _ _ _ is.1 in
    let seen : (g.S.Post.view c.look-limit.new.self).seen ≡ c.look-limit.result = ap (λ (v : View). v.seen) c.look-limit.ensures.view in
    let near_passed = passed_near opened old (g.L.Lane.shown c.loop-number.lane) near c.position-position.result c.next_near-near.result
    c.position-position.ensures c.loop-number.invariant.passed c.pass_each.ensures c.pass_to.ensures.most in
    let passed = passed_near opened old near cleared c.position-from.result c.next_clears-clears.result.to c.position-from.ensures near_passed
    c.pass_each-in-loop-number.ensures c.clear_to.ensures.most in
    let on_table = rw (c.next_clears-clears.ensures.same ∙ c.loop-number.invariant.found) at c.clear_to.ensures.moved in
    record {
      seat = c.look-limit.ensures.seat;
      share = ap (λ (v : View). v.share) c.look-limit.ensures.view ∙ c.loop-number.invariant.share;
      low = ap (λ (v : View). v.low) c.look-limit.ensures.view ∙ c.loop-number.invariant.low;
      seen = omega arith;
      found = c.next_clears-clears.ensures.same ∙ c.loop-number.invariant.found;
      fits = c.forward.ensures.fits;
      ran = ran_more _ _ _ _ is.1 (ran_on _ _ _ _ on_table c.clear_to.ensures.least
          (ran_on _ _ _ _ c.pass_to.ensures.moved c.pass_to.ensures.least c.loop-number.invariant.ran));
      passed = passed_step opened old cleared (g.L.Lane.shown c.forward.new.self) (c.position-at.result + 1) passed c.pass.ensures (omega arith) (omega arith);
      within = inl (omega arith);
    }

pub returns-then-from-limit-2-clause-lane : goal.returns-then-from-limit-2-clause-lane
returns-then-from-limit-2-clause-lane g c =
    let table = c.args.course.now.table.now in
    let old = g.L.Lane.shown c.args.lane.now in
    let near = g.L.Lane.shown c.pass_to.new.self in
    let seat = g.S.Post.view c.look-limit.new.self in
    let seen : seat.seen ≡ c.look-limit.result = ap (λ (v : View). v.seen) c.look-limit.ensures.view in
    let ran : Ran table old near = ran_on _ _ _ _ c.pass_to.ensures.moved c.pass_to.ensures.least c.loop-number.invariant.ran in
    drawn_quiet _ _ _ _ _ _ ran (inl (omega arith)) (omega arith)

pub returns-then-from-limit-2-clause-passed : goal.returns-then-from-limit-2-clause-passed
returns-then-from-limit-2-clause-passed g c =
    passed_near (g.G.Gate.opened c.args.course.now.gate.now c.args.number) (g.L.Lane.shown c.args.lane.now) (g.L.Lane.shown c.loop-number.lane)
    (g.L.Lane.shown c.pass_to.new.self) c.position-position.result c.next_near-near.result c.position-position.ensures c.loop-number.invariant.passed
    c.pass_each.ensures c.pass_to.ensures.most

pub returns-then-from-limit-3-clause-lane : goal.returns-then-from-limit-3-clause-lane
returns-then-from-limit-3-clause-lane g c =
    let table = c.args.course.now.table.now in
    let old = g.L.Lane.shown c.args.lane.now in
    let cleared = g.L.Lane.shown c.clear_to.new.self in
    let seat = g.S.Post.view c.look-limit.new.self in
    let seen : seat.seen ≡ c.look-limit.result = ap (λ (v : View). v.seen) c.look-limit.ensures.view in
    let on_table = rw (c.next_clears-clears.ensures.same ∙ c.loop-number.invariant.found) at c.clear_to.ensures.moved in
    let ran : Ran table old cleared = ran_on _ _ _ _ on_table c.clear_to.ensures.least
    (ran_on _ _ _ _ c.pass_to.ensures.moved c.pass_to.ensures.least c.loop-number.invariant.ran) in
    drawn_quiet _ _ _ _ _ _ ran (inl (omega arith)) (omega arith)

pub returns-then-is_err-clause-lane : goal.returns-then-is_err-clause-lane
returns-then-is_err-clause-lane g c =
    let table = c.args.course.now.table.now in
    let old = g.L.Lane.shown c.args.lane.now in
    let cleared = g.L.Lane.shown c.clear_to.new.self in
    let is = at_err _ _ _ c.forward.ensures.moved (sym c.is_err.ensures.value ∙ c.if-is_err.true) in
    let on_table = rw (c.next_clears-clears.ensures.same ∙ c.loop-number.invariant.found) at c.clear_to.ensures.moved in
    let ran : Ran table old cleared = ran_on _ _ _ _ on_table c.clear_to.ensures.least
    (ran_on _ _ _ _ c.pass_to.ensures.moved c.pass_to.ensures.least c.loop-number.invariant.ran) in
    drawn_refused _ _ _ _ _ _ _ ran is.1 (omega arith) (omega arith) (omega arith)

pub returns-then-from-limit-3-clause-passed : goal.returns-then-from-limit-3-clause-passed
returns-then-from-limit-3-clause-passed g c =
    let opened = g.G.Gate.opened c.args.course.now.gate.now c.args.number in
    let old = g.L.Lane.shown c.args.lane.now in
    let near = g.L.Lane.shown c.pass_to.new.self in
    let passed = passed_near opened old (g.L.Lane.shown c.loop-number.lane) near c.position-position.result c.next_near-near.result
    c.position-position.ensures c.loop-number.invariant.passed c.pass_each.ensures c.pass_to.ensures.most in
    passed_near opened old near (g.L.Lane.shown c.clear_to.new.self) c.position-from.result c.next_clears-clears.result.to c.position-from.ensures passed
    c.pass_each-in-loop-number.ensures c.clear_to.ensures.most

pub returns-then-is_err-clause-passed : goal.returns-then-is_err-clause-passed
returns-then-is_err-clause-passed g c =
    let opened = g.G.Gate.opened c.args.course.now.gate.now c.args.number in
    let old = g.L.Lane.shown c.args.lane.now in
    let near = g.L.Lane.shown c.pass_to.new.self in
    let is = at_err _ _ _ c.forward.ensures.moved (sym c.is_err.ensures.value ∙ c.if-is_err.true) in
    let at : position (g.L.Lane.shown c.forward.new.self).history ≡ position (g.L.Lane.shown c.clear_to.new.self).history =
    ap (λ (s : Shown). position s.history) is.1 in
    let passed = passed_near opened old (g.L.Lane.shown c.loop-number.lane) near c.position-position.result c.next_near-near.result
    c.position-position.ensures c.loop-number.invariant.passed c.pass_each.ensures c.pass_to.ensures.most in
    passed_near opened old near (g.L.Lane.shown c.forward.new.self) c.position-from.result c.next_clears-clears.result.to c.position-from.ensures passed
    c.pass_each-in-loop-number.ensures (omega (arith, at, c.clear_to.ensures.most))

pub returns-then-is_err-clause-wanted : goal.returns-then-is_err-clause-wanted
returns-then-is_err-clause-wanted g c =
    inr (on_err c.forward.result g.L.Lane.wanted (sym c.is_err.ensures.value ∙ c.if-is_err.true) c.forward.ensures.wanted)
