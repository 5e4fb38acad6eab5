-- Where memory was refused.
pub use Rattle.dash_behind.specs.Closed.{NoMemory}
