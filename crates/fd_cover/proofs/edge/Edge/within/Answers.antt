use Rattle.std.proofs.Common.{pos, ◌+ℤ◌, ◌*ℤ◌, ◌≤ℤ◌, ◌<ℤ◌, arith}
use Rattle.std.proofs.lemmas.Int.{ints}
use Rattle.fd_cover.proofs.HalfLineLemmas.{all_between, none_between}
use Rattle.fd_cover.proofs.edge.Edge.within.Goals as goal

pub returns-then-past_end-self-ge0-clause-columns : goal.returns-then-past_end-self-ge0-clause-columns
returns-then-past_end-self-ge0-clause-columns c =
    let self = c.args.self in
    let at_start : (self.step *ℤ pos c.args.start) ≤ℤ self.slack =
    omega (arith, ints, c.room-at_start.ensures.value, c.if-at_start-ge0.true, c.room-at_start.ensures.bound) in
    let at_end : (self.step *ℤ pos c.args.end) ≤ℤ (self.slack +ℤ self.step) =
    omega (arith, ints, c.room-past_end.ensures.value, c.if-past_end-self-ge0.true, c.room-past_end.ensures.bound, c.requires.step) in
    λ x low high. (λ h. (low, high), λ h. all_between self.step self.slack c.args.start c.args.end x low high at_start at_end)

pub returns-then-past_end-self-lt0-clause-columns : goal.returns-then-past_end-self-lt0-clause-columns
returns-then-past_end-self-lt0-clause-columns c =
    let self = c.args.self in
    let at_start : self.slack <ℤ (self.step *ℤ pos c.args.start) =
    omega (arith, ints, c.room-at_start.ensures.value, c.if-at_start-lt0.true, c.room-at_start.ensures.bound) in
    let at_end : (self.slack +ℤ self.step) <ℤ (self.step *ℤ pos c.args.end) =
    omega (arith, ints, c.room-past_end.ensures.value, c.if-past_end-self-lt0.true, c.room-past_end.ensures.bound, c.requires.step) in
    λ x low high. (λ h. absurd (none_between self.step self.slack c.args.start c.args.end x low high at_start at_end h), λ h. absurd (omega (arith, h)))
