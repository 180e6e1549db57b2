-- The library's version, 0.9.0, as one number: major, minor and patch in a byte each.
use Rattle.std.specs.Prelude.{ℕ, ◌+◌, ◌*◌}

abbrev pub version : ℕ
version = 0 * 65536 + 9 * 256 + 0
