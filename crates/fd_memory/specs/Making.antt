-- Working. What only a refused growth gives. It is shut, and this file is closed to other crates, so that nobody there can make one.
pub Wanted : Type 0
Wanted = Unit {0}

pub wanted : Wanted
unfolding Wanted
wanted = tt
