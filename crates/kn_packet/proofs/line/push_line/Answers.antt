use Rattle.kn_packet.proofs.Pushes.{two_pushes, three_pushes}
use Rattle.kn_packet.proofs.line.push_line.Goals as goal

pub returns-in_ok-push_number-in-DialReq : goal.returns-in_ok-push_number-in-DialReq
returns-in_ok-push_number-in-DialReq c =
    rw c.in-DialReq.is (three_pushes _ _ _ _ _ _ _ c.in_ok-push_text-in-DialReq.ensures c.in_ok-push_text-in-DialReq-2.ensures c.in_ok-push_number-in-DialReq.ensures)

pub returns-in_ok-push_number-in-DialRsp-2 : goal.returns-in_ok-push_number-in-DialRsp-2
returns-in_ok-push_number-in-DialRsp-2 c =
    rw c.in-DialRsp.is (three_pushes _ _ _ _ _ _ _ c.in_ok-push_text-in-DialRsp.ensures c.in_ok-push_number-in-DialRsp.ensures c.in_ok-push_number-in-DialRsp-2.ensures)

pub returns-in_ok-push_number-in-CloseReq : goal.returns-in_ok-push_number-in-CloseReq
returns-in_ok-push_number-in-CloseReq c = rw c.in-CloseReq.is c.in_ok-push_number-in-CloseReq.ensures

pub returns-in_ok-push_number-in-CloseRsp : goal.returns-in_ok-push_number-in-CloseRsp
returns-in_ok-push_number-in-CloseRsp c =
    rw c.in-CloseRsp.is (two_pushes _ _ _ _ _ c.in_ok-push_text-in-CloseRsp.ensures c.in_ok-push_number-in-CloseRsp.ensures)

pub returns-in_ok-push_number-in-DialCls : goal.returns-in_ok-push_number-in-DialCls
returns-in_ok-push_number-in-DialCls c = rw c.in-DialCls.is c.in_ok-push_number-in-DialCls.ensures

pub returns-in_ok-push_type-in-Other : goal.returns-in_ok-push_type-in-Other
returns-in_ok-push_type-in-Other c = rw c.in-Other.is c.in_ok-push_type-in-Other.ensures
