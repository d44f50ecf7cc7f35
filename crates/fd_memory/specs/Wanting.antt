-- Working. That memory was wanted: a growth was really refused.
pub use Rattle.fd_memory.specs.Making.{Wanted}
