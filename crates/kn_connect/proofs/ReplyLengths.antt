-- Replies are short.
use Rattle.std.proofs.Common.{ℕ, ◌<◌, ◌==◌, ◌++◌, [], length, codes, Bool, true, false, cond, lit<}
use Rattle.kn_connect.specs.Replies.{crlf, field, reply_text}

pub reply_is_short : (status : ℕ) → length (reply_text status) < 256
unfolding reply_text
reply_is_short status = go (status == 200) (status == 400) (status == 405) (status == 431) (status == 502) where
  go : (a b c d e : Bool) → length ((codes "HTTP/1.1 " ++ (cond a (codes "200 Connection Established") (cond b (codes "400 Bad Request") (cond c (codes "405 Method Not Allowed") (cond d (codes "431 Request Header Fields Too Large") (cond e (codes "502 Bad Gateway") (codes "503 Service Unavailable"))))) ++ crlf)) ++ (cond a [] (cond c (field (codes "Allow: CONNECT")) [] ++ (field (codes "Content-Length: 0") ++ field (codes "Connection: close"))) ++ crlf)) < 256
  go true b c d e = lit< tt
  go false true true d e = lit< tt
  go false true false d e = lit< tt
  go false false true d e = lit< tt
  go false false false true e = lit< tt
  go false false false false true = lit< tt
  go false false false false false = lit< tt
