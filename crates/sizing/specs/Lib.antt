pub mod Census
