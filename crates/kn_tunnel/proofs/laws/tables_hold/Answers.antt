-- Each view that meets the facts is in a row of its table.
use Rattle.kn_tunnel.proofs.Rows.{connect_row_of, link_row_of, stream_row_of}
use Rattle.kn_tunnel.proofs.laws.tables_hold.Goals as goal

pub returns : goal.returns
returns c = record { link = λ t h s a d. link_row_of t h.link s a d; stream = λ t h n d f. stream_row_of t h.stream n d f; connection = λ t h d. connect_row_of t h.stream d }
