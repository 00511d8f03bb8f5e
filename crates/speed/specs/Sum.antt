-- The sum over the calls of a run, by which two cards are compared: every call's outcome, used bytes and reply length count. Assumes nothing.
use Rattle.std.specs.Prelude.{ℕ, ◌+◌, ◌*◌, ◌%◌}

-- 16777619 times the sum, plus the outcome's number, 16 times the bytes used and 4096 times the reply's length, modulo 2 to the 32nd
unfoldable pub mixed : ℕ → ℕ → ℕ → ℕ → ℕ
mixed sum number used len = (sum * 16777619 + (number + 16 * (used % 65536) + 4096 * (len % 65536))) % 4294967296
