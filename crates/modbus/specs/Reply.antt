-- What a reply buffer is given. Assumes nothing.
use Rattle.std.specs.Prelude.{List, [], ℕ, ltb}
use Rattle.base.specs.Choice.{pick}

-- "10: buffer too short": one shorter than the protocol's least gets no reply
unfoldable pub reply_in : (least size : ℕ) → List ℕ → List ℕ
reply_in least size reply = pick (ltb size least) [] reply
