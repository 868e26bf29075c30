-- With which status a request is refused (RFC 9110, section 15; RFC 6585, section 5), and how long replies are.
use Rattle.std.specs.Prelude.{ℕ, List, codes, length, bytes_eq, if◌then◌else◌}
use Rattle.kn_connect.specs.declared.answer.ConnectFault.{ConnectFault}
use Rattle.kn_connect.specs.declared.answer.ConnectFault.TheVariants.{BadHead, NotConnect, TooLong}
use Rattle.kn_connect.specs.Replies.{reply_text}

-- the status by the fault of the head
abbrev pub fault_status : ConnectFault → ℕ
fault_status BadHead = 400
fault_status NotConnect = 405
fault_status TooLong = 431

-- the status by the error with which a dial is refused
abbrev pub error_status : List ℕ → ℕ
error_status error =
    if bytes_eq error (codes "bad address") then 400
    else (if bytes_eq error (codes "no agent available") then 503
    else (if bytes_eq error (codes "dial numbers used up") then 503
    else 502))

-- how many bytes the reply of a status has
abbrev pub reply_length : ℕ → ℕ
reply_length status = length (reply_text status)
