-- The bytes of a two-dimensional view in their parts: some that stand ready, and the data behind them.
use Rattle.std.specs.Prelude.{◌≡◌, ◌<◌, ◌^◌, ℕ, List, ◌++◌, length, All, IsSomeAnd}
use Rattle.dap_model.specs.declared.projection.Sent.{Sent}
use Rattle.dap_xdr.specs.Content.{array_in, data_of, FitsArray}
use Rattle.fm_twod.specs.Laid.{content_of, decls_in, Laid}

-- the bytes that stand ready, and what is sent of a view behind them
pub record Body : Type 0 where
  pub front : List ℕ
  pub laid : Laid
  pub sent : List Sent

-- the bytes of all parts
unfoldable pub bytes_of : Body → List ℕ
bytes_of body = body.front ++ data_of (content_of body.laid) body.sent

-- what is sent is a part of the view, with slabs that lie within it
abbrev pub IsSentOf : Laid → Sent → Type 0
IsSentOf laid sent = IsSomeAnd (array_in (decls_in laid) sent.decl sent.part) (FitsArray sent)

-- what a body keeps: what is sent is of its view, and it knows how many bytes it has
pub record IsBody (body : Body) (len : ℕ) : Type 0 where
  pub sent_fits : All (IsSentOf body.laid) body.sent
  pub len_is : len ≡ length (bytes_of body)
  pub few : len < 2 ^ 63
