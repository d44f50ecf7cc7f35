use Rattle.std.proofs.Common.{nat_le, nat_lt, eqb, not}
use Rattle.fd_draw.proofs.Masks.{lane_set, lanes_bound, ones_set}
use Rattle.fd_draw.proofs.comparison.holds.Goals as goal

pub returns-in-Less-clause-bits : goal.returns-in-Less-clause-bits
returns-in-Less-clause-bits c = λ k low. rw c.in-Less.is (lane_set nat_lt c.args.sources c.args.stored c.requires.sources c.requires.stored k low)

pub returns-in-Less-clause-bound : goal.returns-in-Less-clause-bound
returns-in-Less-clause-bound c = lanes_bound nat_lt c.args.sources c.args.stored c.requires.sources c.requires.stored

pub returns-in-Equal-clause-bits : goal.returns-in-Equal-clause-bits
returns-in-Equal-clause-bits c = λ k low. rw c.in-Equal.is (lane_set eqb c.args.sources c.args.stored c.requires.sources c.requires.stored k low)

pub returns-in-Equal-clause-bound : goal.returns-in-Equal-clause-bound
returns-in-Equal-clause-bound c = lanes_bound eqb c.args.sources c.args.stored c.requires.sources c.requires.stored

pub returns-in-LessEqual-clause-bits : goal.returns-in-LessEqual-clause-bits
returns-in-LessEqual-clause-bits c = λ k low. rw c.in-LessEqual.is (lane_set nat_le c.args.sources c.args.stored c.requires.sources c.requires.stored k low)

pub returns-in-LessEqual-clause-bound : goal.returns-in-LessEqual-clause-bound
returns-in-LessEqual-clause-bound c = lanes_bound nat_le c.args.sources c.args.stored c.requires.sources c.requires.stored

pub returns-in-Greater-clause-bits : goal.returns-in-Greater-clause-bits
returns-in-Greater-clause-bits c = λ k low. rw c.in-Greater.is (lane_set nat_lt c.args.stored c.args.sources c.requires.stored c.requires.sources k low)

pub returns-in-Greater-clause-bound : goal.returns-in-Greater-clause-bound
returns-in-Greater-clause-bound c = lanes_bound nat_lt c.args.stored c.args.sources c.requires.stored c.requires.sources

pub returns-in-NotEqual-clause-bits : goal.returns-in-NotEqual-clause-bits
returns-in-NotEqual-clause-bits c =
    λ k low. rw c.in-NotEqual.is (lane_set (λ a b. not (eqb a b)) c.args.sources c.args.stored c.requires.sources c.requires.stored k low)

pub returns-in-NotEqual-clause-bound : goal.returns-in-NotEqual-clause-bound
returns-in-NotEqual-clause-bound c = lanes_bound (λ a b. not (eqb a b)) c.args.sources c.args.stored c.requires.sources c.requires.stored

pub returns-in-GreaterEqual-clause-bits : goal.returns-in-GreaterEqual-clause-bits
returns-in-GreaterEqual-clause-bits c =
    λ k low. rw c.in-GreaterEqual.is (lane_set nat_le c.args.stored c.args.sources c.requires.stored c.requires.sources k low)

pub returns-in-GreaterEqual-clause-bound : goal.returns-in-GreaterEqual-clause-bound
returns-in-GreaterEqual-clause-bound c = lanes_bound nat_le c.args.stored c.args.sources c.requires.stored c.requires.sources

pub returns-in-Always-clause-bits : goal.returns-in-Always-clause-bits
returns-in-Always-clause-bits c = λ k low. rw c.in-Always.is (ones_set k low)
