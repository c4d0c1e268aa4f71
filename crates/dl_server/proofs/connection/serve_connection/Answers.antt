use Rattle.std.proofs.lemmas.Result.{IfOk-from_err, on_ok_weaker}
use Rattle.http_server.specs.Connection.{history}
use Rattle.dl_server.specs.declared.connection.Answering.{Answering}
use Rattle.dl_server.proofs.Served.{answered}
use Rattle.dl_server.proofs.connection.serve_connection.Goals as goal

pub returns : goal.returns
returns g c =
    let read = c.serve.ensures.read in
    let sent = c.serve.ensures.written in (
      read.0,
      sent.0,
      history c.serve.new.connection,
      read.1,
      sent.1,
      answered (λ (s : Answering g.row.T.Denot). s.options.now) c.new-connection.result c.serve.new.connection _ _ read.0 sent.0 c.new-connection.ensures.config
          c.new-connection.ensures.history c.serve.ensures.config read.2 sent.2 c.serve.ensures.calls,
      on_ok_weaker c.ended.result (λ going. (c.in_ok-serve.ensures.done, going)) c.ended.ensures,
    )

pub returns-in_err-serve : goal.returns-in_err-serve
returns-in_err-serve g c =
    let read = c.serve.ensures.read in
    let sent = c.serve.ensures.written in (
      read.0,
      sent.0,
      history c.serve.new.connection,
      read.1,
      sent.1,
      answered (λ (s : Answering g.row.T.Denot). s.options.now) c.new-connection.result c.serve.new.connection _ _ read.0 sent.0 c.new-connection.ensures.config
          c.new-connection.ensures.history c.serve.ensures.config read.2 sent.2 c.serve.ensures.calls,
      IfOk-from_err _ _ c.from_residual.ensures.0,
    )
