-- The replies to CONNECT requests (RFC 9112, section 4; RFC 9110, sections 9.3.6 and 15; RFC 6585, section 5).
use Rattle.std.specs.Prelude.{ℕ, ◌||◌, ◌==◌, if◌then◌else◌, List, [], ◌∷◌, ◌++◌, codes, IsTrue}

-- CR LF
abbrev pub crlf : List ℕ
crlf = 13 ∷ 10 ∷ []

-- there is a reply of this status
abbrev pub IsReplyStatus : ℕ → Type 0
IsReplyStatus status =
    IsTrue (status == 200 || status == 400 || status == 405 || status == 431 || status == 502 || status == 503)

-- the status and its reason phrase
abbrev pub status_and_reason : ℕ → List ℕ
status_and_reason status =
    if status == 200 then codes "200 Connection Established"
    else if status == 400 then codes "400 Bad Request"
    else if status == 405 then codes "405 Method Not Allowed"
    else if status == 431 then codes "431 Request Header Fields Too Large"
    else if status == 502 then codes "502 Bad Gateway"
    else codes "503 Service Unavailable"

-- a field line
abbrev pub field : List ℕ → List ℕ
field text = text ++ crlf

-- the fields: none for 200; a refusal has no content and closes, and that of a method names the one allowed
abbrev pub fields : ℕ → List ℕ
fields status =
    if status == 200 then []
    else (if status == 405 then field (codes "Allow: CONNECT") else []) ++ (field (codes "Content-Length: 0") ++ field (codes "Connection: close"))

-- a status line, the fields, and an empty line
unfoldable pub reply_text : ℕ → List ℕ
reply_text status = (codes "HTTP/1.1 " ++ (status_and_reason status ++ crlf)) ++ (fields status ++ crlf)
