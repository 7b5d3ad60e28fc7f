-- Messages that are to be sent have 1 to 1,024 bytes.
use Rattle.std.specs.Prelude.{ℕ, ◌≤◌, List, length}

pub record IsSendSized (bytes : List ℕ) : Type 0 where
  pub low : 1 ≤ length bytes
  pub high : length bytes ≤ 1024
