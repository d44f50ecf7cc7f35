use Rattle.fd_cover.specs.Cross.{cross}
use Rattle.fd_cover.proofs.Products.{product_fits, two_by_two, two_by_two_bound, two_by_two_fits}
use Rattle.fd_cover.proofs.point.cross.Goals as goal

pub overflow_mul-result : goal.overflow_mul-result
overflow_mul-result c = product_fits c.right_to.result c.down_to.result c.right_to.ensures.bound c.down_to.ensures.bound

pub overflow_mul-result-2 : goal.overflow_mul-result-2
overflow_mul-result-2 c = product_fits c.down_to-2.result c.right_to-2.result c.down_to-2.ensures.bound c.right_to-2.ensures.bound

pub overflow_sub-result : goal.overflow_sub-result
overflow_sub-result c = two_by_two_fits c.right_to.result c.down_to.result c.down_to-2.result c.right_to-2.result c.right_to.ensures.bound
    c.down_to.ensures.bound c.down_to-2.ensures.bound c.right_to-2.ensures.bound

pub returns-clause-value : goal.returns-clause-value
unfolding cross
returns-clause-value c =
    let e = two_by_two c.right_to.result c.down_to.result c.down_to-2.result c.right_to-2.result c.right_to.ensures.bound c.down_to.ensures.bound
    c.down_to-2.ensures.bound c.right_to-2.ensures.bound in
    rw e (rw (c.right_to.ensures.value, c.down_to.ensures.value, c.down_to-2.ensures.value, c.right_to-2.ensures.value))

pub returns-clause-bound : goal.returns-clause-bound
returns-clause-bound c =
    let e = two_by_two c.right_to.result c.down_to.result c.down_to-2.result c.right_to-2.result c.right_to.ensures.bound c.down_to.ensures.bound
    c.down_to-2.ensures.bound c.right_to-2.ensures.bound in
    rw e (two_by_two_bound c.right_to.result c.down_to.result c.down_to-2.result c.right_to-2.result c.right_to.ensures.bound c.down_to.ensures.bound
    c.down_to-2.ensures.bound c.right_to-2.ensures.bound)
