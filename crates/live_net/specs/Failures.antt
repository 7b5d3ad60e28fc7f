-- Which errors of the system are a failure of an own socket.
use Rattle.std.specs.Prelude.{◌≡◌, ◌⊎◌, ℤ, pos, Option, Some}

-- the descriptor is not open, the memory is not the process's own, or the descriptor is no socket (EBADF, EFAULT and ENOTSOCK of Linux)
abbrev pub IsOwn : Option ℤ → Type 0
IsOwn code = (code ≡ Some (pos 9)) ⊎ ((code ≡ Some (pos 14)) ⊎ (code ≡ Some (pos 88)))
