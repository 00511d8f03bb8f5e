-- What a lent buffer holds once bytes were written to its start. Assumes nothing.
use Rattle.std.specs.Prelude.{List, [], ◌++◌, ℕ, eqb, ltb, length, drop}
use Rattle.base.specs.Choice.{pick}

-- the bytes, and past them what the buffer held: "Bytes past a reply or a master's request .. stay"
unfoldable pub front : List ℕ → List ℕ → List ℕ
front bytes buffer = bytes ++ drop (length bytes) buffer

-- the bytes where there is room for all of them, and else none
unfoldable pub fitting : List ℕ → ℕ → List ℕ
fitting bytes room = pick (ltb room (length bytes)) [] bytes

-- "Reply buffers now need 256 bytes for RTU and 513 for ASCII; NFO stays at 19": under that is 10
abbrev pub nfo_least : ℕ
nfo_least = 19

abbrev pub rtu_least : ℕ
rtu_least = 256

abbrev pub ascii_least : ℕ
ascii_least = 513

-- the least reply buffer of a port, by its protocol's number: 1 Modbus RTU, 2 Modbus ASCII, else NFO serial
unfoldable pub reply_least : ℕ → ℕ
reply_least protocol = pick (eqb protocol 1) rtu_least (pick (eqb protocol 2) ascii_least nfo_least)
