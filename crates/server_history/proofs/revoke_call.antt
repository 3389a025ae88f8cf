-- A client's grant is revoked: what becomes of the book, of the machine, and of what is due, whether or not the
-- adapter is on.
pub mod RevokedEach
pub mod RevokedBook
pub mod RevokedMachine
pub mod RevokedServer
pub mod Revocation
pub mod StuckRevocation
